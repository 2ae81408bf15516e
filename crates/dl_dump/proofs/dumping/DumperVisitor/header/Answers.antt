use Rattle.std.proofs.Common.{refl}
use Rattle.std.proofs.lemmas.Result.{err_from_is_err_and}
use Rattle.dl_path.proofs.PrintLemmas.{loses_front, loses_then, more_then}
use Rattle.dl_sections.specs.Section.{of_header}
use Rattle.dl_dump.specs.DetailText.{header_shown, line_end}
use Rattle.dl_dump.specs.Dumping.{style_of}
use Rattle.dl_dump.proofs.ShowingLemmas.{loses_one, shows_one}
use Rattle.dl_dump.proofs.dumping.DumperVisitor.header.Goals as goal

pub returns-in_err-print_line_end-clause-heard : goal.returns-in_err-print_line_end-clause-heard
returns-in_err-print_line_end-clause-heard g c first start visits showed =
    let e = err_from_is_err_and c.from_residual.result c.from_residual.ensures.1 in
    let old = g.W.Write.contents c.args.output.now in
    let new = g.W.Write.contents c.print_line_end.new.output in
    rw (e.1, e.2) (loses_one showed
    (record c.args.self.now { printer = record c.args.self.now.printer { now = c.print_line_end.new.printer } }) new
    (of_header c.args.offset c.args.lengths c.args.header.now) _
    (loses_front old new c.args.self.now.printer.now (line_end c.args.self.now.at.opcode)
    (header_shown (style_of c.args.self.now) c.args.offset c.args.lengths c.args.header.now) _ c.in_err-print_line_end.ensures.printed))

pub returns-in_err-print_header-clause-heard : goal.returns-in_err-print_header-clause-heard
returns-in_err-print_header-clause-heard g c first start visits showed =
    let e = err_from_is_err_and c.from_residual-in_err-print_header.result c.from_residual-in_err-print_header.ensures.1 in
    let old = g.W.Write.contents c.args.output.now in
    let mid = g.W.Write.contents c.print_line_end.new.output in
    let new = g.W.Write.contents c.print_header.new.output in
    rw (e.1, e.2) (loses_one showed
    (record c.args.self.now { printer = record c.args.self.now.printer { now = c.print_header.new.printer } }) new
    (of_header c.args.offset c.args.lengths c.args.header.now) _
    (loses_then old mid new c.args.self.now.printer.now c.print_line_end.new.printer (line_end c.args.self.now.at.opcode)
    (header_shown (style_of c.args.self.now) c.args.offset c.args.lengths c.args.header.now) _ c.in_ok-print_line_end.ensures.printed c.in_err-print_header.ensures.printed))

pub returns-clause-heard : goal.returns-clause-heard
returns-clause-heard g c first start visits showed =
    let old = g.W.Write.contents c.args.output.now in
    let mid = g.W.Write.contents c.print_line_end.new.output in
    let new = g.W.Write.contents c.print_header.new.output in
    shows_one showed _ new (of_header c.args.offset c.args.lengths c.args.header.now)
    (more_then old mid new c.args.self.now.printer.now c.print_line_end.new.printer c.print_header.new.printer
    (line_end c.args.self.now.at.opcode) (header_shown (style_of c.args.self.now) c.args.offset c.args.lengths c.args.header.now) c.in_ok-print_line_end.ensures.printed
    c.in_ok-print_header.ensures.printed) refl refl refl c.at_program-self.ensures
