-- The texts of values, and the lines of directories and files.
use Rattle.std.specs.Prelude.{ℕ, Bool, ◌||◌, List, [], ◌∷◌, ◌++◌, Option, Some, None, nat_lt, ◌==◌, if◌then◌else◌}
use Rattle.std.specs.Prelude.{flat_map, codes, decimal, option_and_then}
use Rattle.dl_print.specs.Digits.{hexadecimal, hexadecimal_of, hexadecimal_bytes}
use Rattle.dl_table.specs.Text.{text_at}
use Rattle.dl_print.specs.declared.output.string_sections.StringSections.{StringSections}
use Rattle.dl_table.specs.Value.{Value, text, line_str, str, str_sup, number, block, data16}

-- the bytes that are written by their numbers: those below 0x20, 0x7f, a quote and a backslash
abbrev pub is_escaped : ℕ → Bool
is_escaped b = nat_lt b 0x20 || (b == 0x7f) || (b == 0x22) || (b == 0x5c)

abbrev pub quoted_byte : ℕ → List ℕ
quoted_byte b = if is_escaped b then codes "\\x" ++ hexadecimal_of 2 b else b ∷ []

-- the bytes of a text as they stand between quotes
abbrev pub quoted_bytes : List ℕ → List ℕ
quoted_bytes w = flat_map quoted_byte w

abbrev pub quoted : List ℕ → List ℕ
quoted w = codes "\"" ++ quoted_bytes w ++ codes "\""

-- the string sections that were handed in
pub record Strings : Type 0 where
  pub line_strings : Option (List ℕ)
  pub strings : Option (List ℕ)

abbrev pub strings_of : StringSections → Strings
strings_of s = record { line_strings = s.debug_line_str; strings = s.debug_str }

-- an offset into a section that wasn't handed in, or that has no text there
abbrev pub offset_text : List ℕ → ℕ → List ℕ
offset_text name n = name ++ codes "+0x" ++ hexadecimal n

abbrev pub quoted_or_offset : List ℕ → ℕ → Option (List ℕ) → List ℕ
quoted_or_offset name n (Some w) = quoted w
quoted_or_offset name n None = offset_text name n

abbrev pub text_in_section : Option (List ℕ) → ℕ → Option (List ℕ)
text_in_section section n = option_and_then (λ bytes. text_at bytes n) section

abbrev pub value_text : Strings → Value → List ℕ
value_text s (text w) = quoted w
value_text s (line_str n) = quoted_or_offset (codes "line_strp") n (text_in_section s.line_strings n)
value_text s (str n) = quoted_or_offset (codes "strp") n (text_in_section s.strings n)
value_text s (str_sup n) = offset_text (codes "strp_sup") n
value_text s (number n) = decimal n
value_text s (block w) = codes "block:" ++ hexadecimal_bytes w
value_text s (data16 w) = hexadecimal_bytes w

-- the names of the content codes. DWARF 5, section 6.2.4.1
unfoldable pub content_name : ℕ → List ℕ
content_name code =
    if code == 1 then codes "path" else if code == 2 then codes "dir" else if code == 3 then codes "time" else
    if code == 4 then codes "size" else if code == 5 then codes "md5" else codes "0x" ++ hexadecimal code

-- a value with the name of its content code
abbrev pub named_value : Strings → ℕ → Value → List ℕ
named_value s code v = codes " " ++ content_name code ++ codes "=" ++ value_text s v
