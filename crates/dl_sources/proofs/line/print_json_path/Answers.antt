use Rattle.std.proofs.Common.{◌++◌, codes}
use Rattle.std.proofs.lemmas.Result.{err_from_is_err_and}
use Rattle.std.specs.Str.Lossy.{utf8_lossy}
use Rattle.json.specs.Print.{escape}
use Rattle.dl_path.proofs.PrintLemmas.{loses_front, loses_then}
use Rattle.dl_sources.proofs.line.print_json_path.Goals as goal

pub returns-in_err-print_json_text-clause-printed : goal.returns-in_err-print_json_text-clause-printed
returns-in_err-print_json_text-clause-printed g c start text h =
    let p = err_from_is_err_and c.from_residual-in_err-print_json_text.result
    c.from_residual-in_err-print_json_text.ensures.1 in
    let open_text = codes "{\"path\":\"" in
    let inner = escape (utf8_lossy c.args.path.now) in
    let old = g.W.Write.contents c.args.output.now in
    let mid = g.W.Write.contents c.put.new.output in
    let new = g.W.Write.contents c.print_json_text.new.output in
    rw (p.1, p.2) (loses_front old new c.args.printer.now (open_text ++ inner) (codes "\"") _
    (loses_then old mid new c.args.printer.now c.put.new.self open_text inner _ c.in_ok-put.ensures.printed
    c.in_err-print_json_text.ensures.printed) start text h)
