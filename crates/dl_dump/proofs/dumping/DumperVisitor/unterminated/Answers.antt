use Rattle.std.proofs.Common.{refl}
use Rattle.std.proofs.lemmas.Result.{err_from_is_err_and}
use Rattle.dl_sections.specs.Section.{of_open}
use Rattle.dl_dump.proofs.ShowingLemmas.{loses_one, shows_one}
use Rattle.dl_dump.proofs.dumping.DumperVisitor.unterminated.Goals as goal

pub returns-in_err-open_sequence-clause-heard : goal.returns-in_err-open_sequence-clause-heard
returns-in_err-open_sequence-clause-heard g c first start visits showed =
    let e = err_from_is_err_and c.from_residual.result c.from_residual.ensures.1 in
    rw (e.1, e.2) (loses_one showed
    (record c.args.self.now { printer = record c.args.self.now.printer { now = c.open_sequence.new.self } })
    (g.W.Write.contents c.open_sequence.new.output) of_open _ c.in_err-open_sequence.ensures.printed)

pub returns-clause-heard : goal.returns-clause-heard
returns-clause-heard g c first start visits showed =
    shows_one showed _ (g.W.Write.contents c.open_sequence.new.output) of_open c.in_ok-open_sequence.ensures.printed
    refl refl refl refl
