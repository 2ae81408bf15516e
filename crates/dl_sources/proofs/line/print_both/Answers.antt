use Rattle.std.proofs.Common.{◌++◌, codes}
use Rattle.std.specs.Prelude.{decimal}
use Rattle.std.proofs.lemmas.Result.{err_from_is_err_and}
use Rattle.dl_path.proofs.PrintLemmas.{loses_front}
use Rattle.dl_sources.proofs.line.print_both.Goals as goal

pub returns-in_err-print_count-clause-printed : goal.returns-in_err-print_count-clause-printed
returns-in_err-print_count-clause-printed g c start text h =
    let p = err_from_is_err_and c.from_residual.result c.from_residual.ensures.1 in
    let a = decimal c.args.counts.rows ++ codes " " in
    let b = decimal c.args.counts.bytes ++ codes " " in
    let old = g.W.Write.contents c.args.output.now in
    let new = g.W.Write.contents c.print_count.new.output in
    rw (p.1, p.2) (loses_front old new c.args.printer.now a b _ c.in_err-print_count.ensures.printed start text h)
