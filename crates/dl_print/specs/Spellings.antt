-- How the bytes of a value are spelled. No promise rests on this file.
use Rattle.std.specs.Prelude.{ℕ, List}
use Rattle.dl_print.specs.declared.output.values.Spelling.{Spelling}
use Rattle.dl_print.specs.declared.output.values.Spelling.TheVariants.{Digits, Quoted}
use Rattle.dl_print.specs.Digits.{hexadecimal_of}
use Rattle.dl_print.specs.ValueText.{quoted_byte}

-- what is printed for a byte
abbrev pub spelled : Spelling → ℕ → List ℕ
spelled Digits b = hexadecimal_of 2 b
spelled Quoted b = quoted_byte b
