-- The values of entries of tables as JSON values. DWARF 5, sections 6.2.4.1 and 7.5.4 to 7.5.6.
use Rattle.std.specs.Prelude.{ℕ, List, ◌++◌, Option, Some, None, codes, decimal, flat_map}
use Rattle.dl_table.specs.Value.{Value, text, line_str, str, str_sup, number, block, data16}
use Rattle.dl_print.specs.Digits.{hexadecimal_bytes}
use Rattle.dl_print.specs.ValueText.{Strings, content_name, text_in_section}
use Rattle.dl_dump_json.specs.Members.{json_string, name_start}

-- an offset into a section that wasn't handed in, or that has no text there: an object, by the name of the form
unfoldable pub offset_object : (name : List ℕ) → ℕ → List ℕ
offset_object name n = codes "{\"" ++ (name ++ (codes "\":" ++ (decimal n ++ codes "}")))

abbrev pub text_or_offset : (name : List ℕ) → ℕ → Option (List ℕ) → List ℕ
text_or_offset name n (Some w) = json_string w
text_or_offset name n None = offset_object name n

-- the digits of the bytes of a block, in an object
unfoldable pub block_object : List ℕ → List ℕ
block_object w = codes "{\"block\":\"" ++ (hexadecimal_bytes w ++ codes "\"}")

-- a string of digits
unfoldable pub digits_string : List ℕ → List ℕ
digits_string w = codes "\"" ++ (hexadecimal_bytes w ++ codes "\"")

abbrev pub value_json : Strings → Value → List ℕ
value_json s (text w) = json_string w
value_json s (line_str n) = text_or_offset (codes "line_strp") n (text_in_section s.line_strings n)
value_json s (str n) = text_or_offset (codes "strp") n (text_in_section s.strings n)
value_json s (str_sup n) = offset_object (codes "strp_sup") n
value_json s (number n) = decimal n
value_json s (block w) = block_object w
value_json s (data16 w) = digits_string w

-- ---- entries

-- a value, by the name of its content code
unfoldable pub value_member : Strings → (ℕ × Value) → List ℕ
value_member s item = name_start (content_name item.0) ++ value_json s item.1

-- an entry: its number in the table, and its values in the order of the format
unfoldable pub entry_object : Strings → (number : ℕ) → List (ℕ × Value) → List ℕ
entry_object s n items =
    (codes "{\"number\":" ++ decimal n) ++ (flat_map (value_member s) items ++ codes "}")
