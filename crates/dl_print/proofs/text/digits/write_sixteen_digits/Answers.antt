use Rattle.std.proofs.Common.{◌≡◌, List, ℕ, ◌++◌, take, arith, sym, ap, ◌∙◌}
use Rattle.std.proofs.lemmas.List.{take_all}
use Rattle.dl_print.specs.Digits.{hexadecimal_bytes}
use Rattle.dl_print.proofs.HexadecimalLemmas.{sixteen_digits}
use Rattle.dl_print.proofs.text.digits.write_sixteen_digits.Goals as goal

pub returns-clause-written : goal.returns-clause-written
returns-clause-written c =
    let bytes = c.to_be_bytes-bytes.result in
    let before = take c.args.at c.args.buffer.now in
    let all : take c.loop-byte.byte-index bytes ≡ bytes = take_all c.loop-byte.byte-index bytes (omega arith) in
    c.loop-byte.invariant.written
    ∙ ap (λ (w : List ℕ). before ++ hexadecimal_bytes w) (all ∙ c.to_be_bytes-bytes.ensures)
    ∙ ap (λ (w : List ℕ). before ++ w) (sym (sixteen_digits c.args.number c.ranges.number.fits))
