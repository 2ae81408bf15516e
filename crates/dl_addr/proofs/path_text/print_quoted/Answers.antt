use Rattle.std.proofs.Common.{[], ◌∷◌, ◌++◌}
use Rattle.std.proofs.lemmas.Result.{err_from_is_err_and}
use Rattle.std.specs.Str.Lossy.{utf8_lossy}
use Rattle.json.specs.Print.{escape}
use Rattle.dl_addr.specs.Texts.{path_named}
use Rattle.dl_path.proofs.PrintLemmas.{loses_front, loses_then}
use Rattle.dl_addr.proofs.path_text.print_quoted.Goals as goal

pub returns-in_err-print_rooted-clause-printed : goal.returns-in_err-print_rooted-clause-printed
returns-in_err-print_rooted-clause-printed g c start text h =
    let p = err_from_is_err_and c.from_residual-in_err-print_rooted.result
    c.from_residual-in_err-print_rooted.ensures.1 in
    let quote = 0x22 ∷ [] in
    let inner = escape (utf8_lossy (path_named c.args.path c.args.name.now)) in
    let old = g.W.Write.contents c.args.output.now in
    let mid = g.W.Write.contents c.put.new.output in
    let new = g.W.Write.contents c.print_rooted.new.output in
    rw (p.1, p.2) (loses_front old new c.args.printer.now (quote ++ inner) quote _
    (loses_then old mid new c.args.printer.now c.put.new.self quote inner _ c.in_ok-put.ensures.printed
    c.in_err-print_rooted.ensures.printed) start text h)
