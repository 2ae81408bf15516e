-- Members of JSON objects, and arrays. RFC 8259, sections 4 to 7.
use Rattle.std.specs.Prelude.{ℕ, ◌+◌, ◌==◌, ℤ, pos, negsuc, Bool, if◌then◌else◌, List, [], ◌∷◌, ◌++◌, codes, decimal}
use Rattle.std.specs.Str.Lossy.{utf8_lossy}
use Rattle.json.specs.Print.{quoted}

-- the JSON string of a text, in which U+FFFD stands for what isn't UTF-8
abbrev pub json_string : List ℕ → List ℕ
json_string text = quoted (utf8_lossy text)

-- a number that may be below zero: `negsuc n` is -(n + 1)
unfoldable pub signed_number : ℤ → List ℕ
signed_number (pos n) = decimal n
signed_number (negsuc n) = codes "-" ++ decimal (n + 1)

abbrev pub boolean : Bool → List ℕ
boolean b = if b then codes "true" else codes "false"

-- ---- members after others

-- a name, up to its value
unfoldable pub name_start : (name : List ℕ) → List ℕ
name_start name = codes ",\"" ++ (name ++ codes "\":")

-- a member that is a number
unfoldable pub number_member : (name : List ℕ) → ℕ → List ℕ
number_member name n = name_start name ++ decimal n

-- one that may be below zero
unfoldable pub signed_member : (name : List ℕ) → ℤ → List ℕ
signed_member name z = name_start name ++ signed_number z

-- ---- arrays

-- what stands before the element at that place, from 0 on
abbrev pub comma_before : (place : ℕ) → List ℕ
comma_before place = if place == 0 then [] else codes ","

-- the elements from that place on; each is told with its place
abbrev pub elements : {A : Type 0} → (ℕ → A → List ℕ) → (place : ℕ) → List A → List ℕ
elements told place [] = []
elements told place (x ∷ xs) = (comma_before place ++ told place x) ++ elements told (place + 1) xs

unfoldable pub array : {A : Type 0} → (ℕ → A → List ℕ) → List A → List ℕ
array told xs = codes "[" ++ (elements told 0 xs ++ codes "]")

-- a member that is an array
unfoldable pub array_member : {A : Type 0} → (name : List ℕ) → (ℕ → A → List ℕ) → List A → List ℕ
array_member name told xs = name_start name ++ array told xs
