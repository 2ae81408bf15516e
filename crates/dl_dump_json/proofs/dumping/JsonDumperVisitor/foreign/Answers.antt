use Rattle.std.proofs.Common.{refl}
use Rattle.std.proofs.lemmas.Result.{err_from_is_err_and}
use Rattle.dl_sections.specs.Section.{of_version}
use Rattle.dl_dump_json.proofs.DumpingLemmas.{loses_visit, prints_visit}
use Rattle.dl_dump_json.proofs.dumping.JsonDumperVisitor.foreign.Goals as goal

pub returns-in_err-print_skipped-clause-heard : goal.returns-in_err-print_skipped-clause-heard
returns-in_err-print_skipped-clause-heard g c first start visits dumped =
    let e = err_from_is_err_and c.from_residual.result c.from_residual.ensures.1 in
    rw (e.1, e.2) (loses_visit dumped
    (record c.args.self.now { printer = record c.args.self.now.printer { now = c.print_skipped.new.printer } })
    (g.W.Write.contents c.print_skipped.new.output) (of_version c.args.offset c.args.version) _ c.in_err-print_skipped.ensures.printed)

pub returns-clause-heard : goal.returns-clause-heard
returns-clause-heard g c first start visits dumped =
    prints_visit dumped _ (g.W.Write.contents c.print_skipped.new.output) (of_version c.args.offset c.args.version) c.in_ok-print_skipped.ensures.printed refl refl refl
