use Rattle.std.proofs.Common.{◌-◌, length, take, drop, arith, sym, ap, subst, length-drop, length-take}
use Rattle.dl_look.specs.Units.{AreFirstAnswers}
use Rattle.dl_look.proofs.AnsweredLemmas.{are_of_this}
use Rattle.dl_look.proofs.finders.Finders.answered_so_far.Goals as goal

pub returns-clause-answered : goal.returns-clause-answered
returns-clause-answered c places units rows st =
    let f = c.args.self.now in
    subst (λ l. AreFirstAnswers places units rows (take (length l - f.whole) (drop f.whole l))) (sym c.log.ensures)
    (are_of_this f places units rows st)

pub returns-clause-count : goal.returns-clause-count
returns-clause-count c =
    let f = c.args.self.now in
    let l = c.log.result.now in
    omega (arith, f.ended, ap length c.log.ensures, length-drop f.whole l, length-take (length l - f.whole) (drop f.whole l))

pub returns-clause-few : goal.returns-clause-few
returns-clause-few c places units rows st =
    let f = c.args.self.now in
    omega (arith, f.sound.room, st.slots.count)
