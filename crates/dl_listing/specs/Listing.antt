-- The stretches of an index as lines of text.
use Rattle.std.specs.Prelude.{ℕ, ◌^◌, ◌==◌, if◌then◌else◌, List, [], ◌∷◌, ◌++◌, flat_map, Option, Some, None, codes, decimal}
use Rattle.dl_index.specs.Stretches.{Told, Stretch}
use Rattle.dl_index.specs.Telling.{stretches_in}
use Rattle.dl_path.specs.Shown.{shown}
use Rattle.dl_print.specs.Digits.{hexadecimal_of}
use Rattle.dl_print.specs.Text.{line}

-- sixteen digits, and seventeen of 2^64
abbrev pub address_text : ℕ → List ℕ
address_text a = codes "0x" ++ hexadecimal_of 16 a

-- the path that these texts make, each of which is shown on its own: bytes of two of them make no character together
abbrev pub path_text : List (List ℕ) → List ℕ
path_text [] = codes "??"
path_text (text ∷ texts) = flat_map shown (text ∷ texts)

-- the column, where it isn't 0
abbrev pub column_text : ℕ → List ℕ
column_text column = if column == 0 then [] else codes ":" ++ decimal column

abbrev pub place_text : Told → List ℕ
place_text t = path_text t.parts ++ (codes ":" ++ decimal t.line) ++ column_text t.column

-- what is told; None is a gap
abbrev pub location_text : Option Told → List ℕ
location_text None = codes "??:0"
location_text (Some t) = place_text t

-- the first address of a stretch and the first one after it, a space after each
abbrev pub addresses_text : (start end : ℕ) → List ℕ
addresses_text start end = address_text start ++ codes " " ++ address_text end ++ codes " "

abbrev pub stretch_line : (start end : ℕ) → Option Told → List ℕ
stretch_line start end told = line (addresses_text start end ++ location_text told)

-- where the first of the stretches begins, or else what comes after the last address of all
abbrev pub begins_at : List Stretch → ℕ
begins_at [] = 2 ^ 64
begins_at (s ∷ stretches) = s.start

-- each stretch ends where the next one begins
abbrev pub stretch_lines : List Stretch → List ℕ
stretch_lines [] = []
stretch_lines (s ∷ stretches) = stretch_line s.start (begins_at stretches) s.told ++ stretch_lines stretches

-- what is printed of the bytes of an index
abbrev pub listing : List ℕ → List ℕ
listing b = stretch_lines (stretches_in b)
