use Rattle.std.proofs.Common.{codes, decimal}
use Rattle.std.proofs.lemmas.Result.{err_from_is_err_and}
use Rattle.dl_path.proofs.PrintLemmas.{loses_front, prints_then}
use Rattle.dl_addr.proofs.json_line.print_discriminator.Goals as goal

pub returns-in_err-put-clause-printed : goal.returns-in_err-put-clause-printed
returns-in_err-put-clause-printed g c start text h =
    let p = err_from_is_err_and c.from_residual.result c.from_residual.ensures.1 in
    let a = codes ",\"discriminator\":" in
    let b = decimal c.args.discriminator in
    let old = g.W.Write.contents c.args.output.now in
    let new = g.W.Write.contents c.put.new.output in
    rw (p.1, p.2) (loses_front old new c.args.printer.now a b _ c.in_err-put.ensures.printed start text h)

pub returns-clause-printed : goal.returns-clause-printed
returns-clause-printed g c =
    let a = codes ",\"discriminator\":" in
    let b = decimal c.args.discriminator in
    let old = g.W.Write.contents c.args.output.now in
    let mid = g.W.Write.contents c.put.new.output in
    let new = g.W.Write.contents c.number.new.output in
    prints_then old mid new c.args.printer.now c.put.new.self c.number.new.self a b c.number.result
    c.in_ok-put.ensures.printed c.number.ensures.printed
