-- What is known of an address as a JSON object (RFC 8259), in one line.
use Rattle.std.specs.Prelude.{ℕ, Bool, if◌then◌else◌, List, [], ◌++◌, Option, Some, None, codes, decimal}
use Rattle.std.specs.Str.Lossy.{utf8_lossy}
use Rattle.json.specs.Print.{quoted}
use Rattle.dl_print.specs.Digits.{hexadecimal, hexadecimal_of}
use Rattle.dl_addr.specs.Location.{Location}

-- the JSON string of a text, in which U+FFFD stands for what isn't UTF-8
abbrev pub json_string : List ℕ → List ℕ
json_string text = quoted (utf8_lossy text)

-- the address as it was given; null of a line that is no address
abbrev pub json_address : Option ℕ → List ℕ
json_address (Some address) = (codes "{\"address\":\"" ++ (codes "0x" ++ hexadecimal_of 16 address)) ++ codes "\""
json_address None = codes "{\"address\":null"

-- after an address the name of the section that is asked of, where it is named
abbrev pub json_section : (address : Option ℕ) → (section : Option (List ℕ)) → List ℕ
json_section (Some address) (Some name) = codes ",\"section\":" ++ json_string name
json_section address section = []

-- what stands before the answer
abbrev pub json_asked : (address : Option ℕ) → (section : Option (List ℕ)) → List ℕ
json_asked address section = json_address address ++ json_section address section

abbrev pub json_position : Location → List ℕ
json_position l =
    (codes ",\"line\":" ++ decimal l.line) ++ (codes ",\"column\":" ++ decimal l.column)
    ++ (codes ",\"discriminator\":" ++ decimal l.discriminator)

abbrev pub json_is_stmt : Bool → List ℕ
json_is_stmt is_stmt = if is_stmt then codes ",\"is_stmt\":true" else codes ",\"is_stmt\":false"

-- what is told, under the JSON string of its path
abbrev pub json_row : (path : List ℕ) → Location → List ℕ
json_row path l =
    (codes ",\"path\":" ++ path) ++ json_position l
    ++ (json_is_stmt l.is_stmt ++ ((codes ",\"unit\":\"0x" ++ hexadecimal l.unit) ++ codes "\""))
