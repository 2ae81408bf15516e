use Rattle.std.proofs.Common.{◌-◌, take, drop, sym, subst}
use Rattle.dl_look.specs.Units.{AreFirstAnswers}
use Rattle.dl_look.proofs.AnsweredLemmas.{are_of_last}
use Rattle.dl_look.proofs.finders.Finders.answered.Goals as goal

pub returns : goal.returns
returns c places units last rows st =
    let f = c.args.self.now in
    subst (λ l. AreFirstAnswers places units last (take (f.whole - f.before) (drop f.before l))) (sym c.log.ensures)
    (are_of_last f places units last rows st)
