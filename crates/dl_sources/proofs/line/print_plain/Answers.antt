use Rattle.std.proofs.Common.{◌++◌}
use Rattle.std.specs.Option.{option_copied}
use Rattle.std.proofs.lemmas.Result.{err_from_is_err_and}
use Rattle.dl_print.specs.Text.{line}
use Rattle.dl_path.specs.Shown.{shown}
use Rattle.dl_path.proofs.PrintLemmas.{loses_front, loses_then}
use Rattle.dl_sources.specs.Report.{counts_text, sum_text}
use Rattle.dl_sources.proofs.line.print_plain.Goals as goal

pub returns-in_err-print_counts-clause-printed : goal.returns-in_err-print_counts-clause-printed
returns-in_err-print_counts-clause-printed g c start text h =
    let p = err_from_is_err_and c.from_residual.result c.from_residual.ensures.1 in
    let a = counts_text c.args.question.now.rows c.args.counts in
    let b = sum_text c.args.question.now.md5 (option_copied c.args.sum) in
    let old = g.W.Write.contents c.args.output.now in
    let new = g.W.Write.contents c.print_counts.new.output in
    rw (p.1, p.2) (loses_front old new c.args.printer.now (a ++ b) (line (shown c.args.path.now)) _
    (loses_front old new c.args.printer.now a b _ c.in_err-print_counts.ensures.printed) start text h)

pub returns-in_err-print_sum-clause-printed : goal.returns-in_err-print_sum-clause-printed
returns-in_err-print_sum-clause-printed g c start text h =
    let p = err_from_is_err_and c.from_residual-in_err-print_sum.result c.from_residual-in_err-print_sum.ensures.1 in
    let a = counts_text c.args.question.now.rows c.args.counts in
    let b = sum_text c.args.question.now.md5 (option_copied c.args.sum) in
    let old = g.W.Write.contents c.args.output.now in
    let mid = g.W.Write.contents c.print_counts.new.output in
    let new = g.W.Write.contents c.print_sum.new.output in
    rw (p.1, p.2) (loses_front old new c.args.printer.now (a ++ b) (line (shown c.args.path.now)) _
    (loses_then old mid new c.args.printer.now c.print_counts.new.printer a b _ c.in_ok-print_counts.ensures.printed
    c.in_err-print_sum.ensures.printed) start text h)
