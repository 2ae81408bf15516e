use Rattle.std.proofs.Common.{◌≡◌, ◌%◌, ap, ◌∙◌, arith}
use Rattle.std.specs.Prelude.{false}
use Rattle.std.specs.Fmt.{digit_glyph}
use Rattle.dl_print.proofs.HexadecimalLemmas.{get_or-BYTE_DIGITS}
use Rattle.dl_print.proofs.text.digits.last_digit.Goals as goal

pub returns : goal.returns
returns c =
    let digit = c.args.number % 16 in
    let same : digit % 16 ≡ digit = omega arith in
    (get_or-BYTE_DIGITS digit (omega arith)).1 ∙ ap (digit_glyph false) same
