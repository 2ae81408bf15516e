use Rattle.std.proofs.Common.{◌++◌, codes, decimal}
use Rattle.std.proofs.lemmas.Result.{err_from_is_err_and}
use Rattle.dl_path.proofs.PrintLemmas.{loses_front, loses_then}
use Rattle.dl_addr.proofs.json_line.print_position.Goals as goal

pub returns-in_err-number-clause-printed : goal.returns-in_err-number-clause-printed
returns-in_err-number-clause-printed g c start text h =
    let p = err_from_is_err_and c.from_residual.result c.from_residual.ensures.1 in
    let position = c.args.answer.now.position in
    let line = codes ",\"line\":" ++ decimal position.line in
    let column = codes ",\"column\":" ++ decimal position.column in
    let rest = codes ",\"discriminator\":" ++ decimal position.discriminator in
    let old = g.W.Write.contents c.args.output.now in
    let new = g.W.Write.contents c.number.new.output in
    rw (
      p.1,
      p.2,
    ) (loses_front old new c.args.printer.now (line ++ column) rest _
    (loses_front old new c.args.printer.now line column _ c.in_err-number.ensures.printed) start text h)

pub returns-in_err-number-2-clause-printed : goal.returns-in_err-number-2-clause-printed
returns-in_err-number-2-clause-printed g c start text h =
    let p = err_from_is_err_and c.from_residual-in_err-number-2.result c.from_residual-in_err-number-2.ensures.1 in
    let position = c.args.answer.now.position in
    let line = codes ",\"line\":" ++ decimal position.line in
    let column = codes ",\"column\":" ++ decimal position.column in
    let rest = codes ",\"discriminator\":" ++ decimal position.discriminator in
    let old = g.W.Write.contents c.args.output.now in
    let mid = g.W.Write.contents c.number.new.output in
    let new = g.W.Write.contents c.number-2.new.output in
    rw (
      p.1,
      p.2,
    ) (loses_front old new c.args.printer.now (line ++ column) rest _
    (loses_then old mid new c.args.printer.now c.number.new.self line column _ c.in_ok-number.ensures.printed
    c.in_err-number-2.ensures.printed) start text h)
