use Rattle.std.proofs.Common.{◌++◌, codes}
use Rattle.std.proofs.lemmas.Result.{err_from_is_err_and}
use Rattle.std.specs.Str.Lossy.{utf8_lossy}
use Rattle.json.specs.Print.{escape}
use Rattle.dl_path.proofs.PrintLemmas.{loses_front, loses_then, more_then, prints_then}
use Rattle.dl_addr.proofs.json_line.print_name.Goals as goal

pub returns-in_err-put-clause-printed : goal.returns-in_err-put-clause-printed
returns-in_err-put-clause-printed g c start text h =
    let p = err_from_is_err_and c.from_residual.result c.from_residual.ensures.1 in
    let open_text = codes ",\"section\":\"" in
    let inner = escape (utf8_lossy c.args.name.now) in
    let old = g.W.Write.contents c.args.output.now in
    let new = g.W.Write.contents c.put.new.output in
    rw (p.1, p.2) (loses_front old new c.args.printer.now open_text (inner ++ codes "\"") _ c.in_err-put.ensures.printed
    start text h)

pub returns-in_err-print_json_text-clause-printed : goal.returns-in_err-print_json_text-clause-printed
returns-in_err-print_json_text-clause-printed g c start text h =
    let p = err_from_is_err_and c.from_residual-in_err-print_json_text.result
    c.from_residual-in_err-print_json_text.ensures.1 in
    let open_text = codes ",\"section\":\"" in
    let inner = escape (utf8_lossy c.args.name.now) in
    let old = g.W.Write.contents c.args.output.now in
    let mid = g.W.Write.contents c.put.new.output in
    let new = g.W.Write.contents c.print_json_text.new.output in
    rw (p.1, p.2) (loses_front old new c.args.printer.now (open_text ++ inner) (codes "\"") _
    (loses_then old mid new c.args.printer.now c.put.new.self open_text inner _ c.in_ok-put.ensures.printed
    (rw c.as_bytes.ensures.value at c.in_err-print_json_text.ensures.printed)) start text h)

pub returns-clause-printed : goal.returns-clause-printed
returns-clause-printed g c =
    let open_text = codes ",\"section\":\"" in
    let inner = escape (utf8_lossy c.args.name.now) in
    let old = g.W.Write.contents c.args.output.now in
    let mid = g.W.Write.contents c.put.new.output in
    let between = g.W.Write.contents c.print_json_text.new.output in
    let new = g.W.Write.contents c.put-2.new.output in
    prints_then old between new c.args.printer.now c.print_json_text.new.printer c.put-2.new.self (open_text ++ inner)
    (codes "\"") c.put-2.result
    (more_then old mid between c.args.printer.now c.put.new.self c.print_json_text.new.printer open_text inner
    c.in_ok-put.ensures.printed (rw c.as_bytes.ensures.value at c.in_ok-print_json_text.ensures.printed))
    c.put-2.ensures.printed
