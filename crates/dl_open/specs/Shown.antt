-- Words in a line on standard error, which stays one line.
use Rattle.std.specs.Prelude.{ℕ, ◌/◌, ◌%◌, ◌==◌, if◌then◌else◌, List, ◌++◌, encode_utf8, flat_map, codes, nat_lt}
use Rattle.std.specs.Str.{chars, is_utf8}
use Rattle.dl_print.specs.Digits.{hexadecimal}
use Rattle.dl_path.specs.Shown.{is_control}

-- a backslash as two, a control character by its number
abbrev pub shown_character : (character : ℕ) → List ℕ
shown_character c =
    if c == 0x5c then codes "\\\\"
    else if is_control c then codes "\\x" ++ hexadecimal (c / 16) ++ hexadecimal (c % 16)
    else encode_utf8 c

-- each character of a word
abbrev pub shown_word : List ℕ → List ℕ
shown_word text = flat_map shown_character (chars text)

-- a byte of what isn't UTF-8, by its number where it is no ASCII
abbrev pub shown_byte : ℕ → List ℕ
shown_byte b =
    if nat_lt b 0x80 then shown_character b else codes "\\x" ++ hexadecimal (b / 16) ++ hexadecimal (b % 16)

-- bytes of a word, which may not be UTF-8
abbrev pub shown_bytes : List ℕ → List ℕ
shown_bytes b = if is_utf8 b then shown_word b else flat_map shown_byte b
