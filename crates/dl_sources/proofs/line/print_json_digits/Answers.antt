use Rattle.std.proofs.Common.{◌++◌, codes}
use Rattle.std.proofs.lemmas.Result.{err_from_is_err_and}
use Rattle.dl_print.specs.Digits.{hexadecimal_bytes}
use Rattle.dl_path.proofs.PrintLemmas.{loses_front, loses_then}
use Rattle.dl_sources.proofs.line.print_json_digits.Goals as goal

pub returns-in_err-put-2-clause-printed : goal.returns-in_err-put-2-clause-printed
returns-in_err-put-2-clause-printed g c start text h =
    let p = err_from_is_err_and c.from_residual-in_err-put-2.result c.from_residual-in_err-put-2.ensures.1 in
    let open_text = codes ",\"md5\":\"" in
    let inner = hexadecimal_bytes c.args.sum.now in
    let old = g.W.Write.contents c.args.output.now in
    let mid = g.W.Write.contents c.put.new.output in
    let new = g.W.Write.contents c.put-2.new.output in
    rw (p.1, p.2) (loses_front old new c.args.printer.now (open_text ++ inner) (codes "\"") _
    (loses_then old mid new c.args.printer.now c.put.new.self open_text inner _ c.in_ok-put.ensures.printed
    (rw c.digits_of.ensures at c.in_err-put-2.ensures.printed)) start text h)
