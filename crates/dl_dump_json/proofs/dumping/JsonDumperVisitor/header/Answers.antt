use Rattle.std.proofs.Common.{refl}
use Rattle.std.proofs.lemmas.Result.{err_from_is_err_and}
use Rattle.dl_sections.specs.Section.{of_header}
use Rattle.dl_dump_json.proofs.DumpingLemmas.{loses_visit, prints_visit}
use Rattle.dl_dump_json.proofs.dumping.JsonDumperVisitor.header.Goals as goal

pub returns-in_err-print_unit-clause-heard : goal.returns-in_err-print_unit-clause-heard
returns-in_err-print_unit-clause-heard g c first start visits dumped =
    let e = err_from_is_err_and c.from_residual.result c.from_residual.ensures.1 in
    rw (e.1, e.2) (loses_visit dumped
    (record c.args.self.now { printer = record c.args.self.now.printer { now = c.print_unit.new.printer } })
    (g.W.Write.contents c.print_unit.new.output) (of_header c.args.offset c.args.lengths c.args.header.now) _ c.in_err-print_unit.ensures.printed)

pub returns-clause-heard : goal.returns-clause-heard
returns-clause-heard g c first start visits dumped =
    prints_visit dumped _ (g.W.Write.contents c.print_unit.new.output) (of_header c.args.offset c.args.lengths c.args.header.now) c.in_ok-print_unit.ensures.printed refl refl refl
