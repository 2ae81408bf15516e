use Rattle.std.proofs.Common.{[], ◌∷◌}
use Rattle.json.specs.Print.{escape_byte}
use Rattle.dl_path.proofs.FrontLemmas.{escape_control, escape_self, escape_short}
use Rattle.dl_path.proofs.PrintLemmas.{prints_same}
use Rattle.dl_path.proofs.json_text.print_byte.Goals as goal

pub returns-then-letter-gt0-clause-printed : goal.returns-then-letter-gt0-clause-printed
returns-then-letter-gt0-clause-printed g c =
    let letter = c.escape_letter-letter.result in
    prints_same (g.W.Write.contents c.args.output.now) (g.W.Write.contents c.put.new.output) c.args.printer.now
    c.put.new.self (92 ∷ letter ∷ []) (escape_byte c.args.byte) c.put.result
    (escape_short c.args.byte letter c.escape_letter-letter.ensures c.if-letter-gt0.true) c.put.ensures.printed

pub returns-then-byte-lt32-clause-printed : goal.returns-then-byte-lt32-clause-printed
returns-then-byte-lt32-clause-printed g c =
    let letter = c.escape_letter-letter.result in
    let high = c.digit.result in
    let low = c.digit-then-byte-lt32.result in
    let put = c.put-then-byte-lt32 in
    prints_same (g.W.Write.contents c.args.output.now) (g.W.Write.contents put.new.output) c.args.printer.now
    put.new.self (92 ∷ 117 ∷ 48 ∷ 48 ∷ high ∷ low ∷ []) (escape_byte c.args.byte) put.result
    (escape_control c.args.byte letter high low c.escape_letter-letter.ensures c.if-letter-gt0.false
    c.if-byte-lt32.true c.digit.ensures c.digit-then-byte-lt32.ensures) put.ensures.printed

pub returns-else-byte-lt32-clause-printed : goal.returns-else-byte-lt32-clause-printed
returns-else-byte-lt32-clause-printed g c =
    let letter = c.escape_letter-letter.result in
    let put = c.put-else-byte-lt32 in
    prints_same (g.W.Write.contents c.args.output.now) (g.W.Write.contents put.new.output) c.args.printer.now
    put.new.self (c.args.byte ∷ []) (escape_byte c.args.byte) put.result
    (escape_self c.args.byte letter c.escape_letter-letter.ensures c.if-letter-gt0.false c.if-byte-lt32.false)
    put.ensures.printed
