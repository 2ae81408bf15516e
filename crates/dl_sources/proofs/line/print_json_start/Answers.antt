use Rattle.std.proofs.Common.{◌++◌, codes}
use Rattle.std.proofs.lemmas.Result.{err_from_is_err_and}
use Rattle.dl_path.proofs.PrintLemmas.{loses_front}
use Rattle.dl_addr.specs.Json.{json_string}
use Rattle.dl_sources.specs.Report.{json_counts}
use Rattle.dl_sources.proofs.line.print_json_start.Goals as goal

pub returns-in_err-print_json_path-clause-printed : goal.returns-in_err-print_json_path-clause-printed
returns-in_err-print_json_path-clause-printed g c start text h =
    let p = err_from_is_err_and c.from_residual.result c.from_residual.ensures.1 in
    let a = codes "{\"path\":" ++ json_string c.args.path.now in
    let b = json_counts c.args.rows c.args.counts in
    let old = g.W.Write.contents c.args.output.now in
    let new = g.W.Write.contents c.print_json_path.new.output in
    rw (p.1, p.2) (loses_front old new c.args.printer.now a b _ c.in_err-print_json_path.ensures.printed start text h)
