use Rattle.std.proofs.Common.{codes}
use Rattle.std.specs.Option.{option_copied}
use Rattle.std.proofs.lemmas.Result.{err_from_is_err_and}
use Rattle.dl_path.proofs.PrintLemmas.{loses_front}
use Rattle.dl_sources.specs.Report.{json_sum}
use Rattle.dl_sources.proofs.line.print_json_end.Goals as goal

pub returns-in_err-print_json_sum-clause-printed : goal.returns-in_err-print_json_sum-clause-printed
returns-in_err-print_json_sum-clause-printed g c start text h =
    let p = err_from_is_err_and c.from_residual.result c.from_residual.ensures.1 in
    let a = json_sum c.args.md5 (option_copied c.args.sum) in
    let b = codes "}\n" in
    let old = g.W.Write.contents c.args.output.now in
    let new = g.W.Write.contents c.print_json_sum.new.output in
    rw (p.1, p.2) (loses_front old new c.args.printer.now a b _ c.in_err-print_json_sum.ensures.printed start text h)
