-- The tables of files and of texts of an index, as they are written.
use Rattle.std.specs.Prelude.{ℕ, zero, suc, ◌+◌, List, [], ◌∷◌, ◌++◌, length, map, get_or}
use Rattle.std.specs.List.{flat_map}
use Rattle.dl_num.specs.Fixed.{little_bytes}
use Rattle.dl_pack.specs.Numbering.{number_in}
use Rattle.dl_pack.specs.declared.names.FileTexts.{FileTexts}

-- the number of a text, counted from 1, by the order of first mention; 0 stays
abbrev pub text_number : List ℕ → ℕ → ℕ
text_number order zero = 0
text_number order (suc text) = number_in order text

abbrev pub no_file : FileTexts
no_file = record { unit = 0; texts = 0 ∷ 0 ∷ 0 ∷ [] }

-- a file: the offset of its unit, its three texts, and 0
abbrev pub file_bytes : List ℕ → FileTexts → List ℕ
file_bytes order f =
    little_bytes 8 f.unit ++ little_bytes 4 (text_number order (get_or f.texts 0 0))
    ++ little_bytes 4 (text_number order (get_or f.texts 1 0)) ++ little_bytes 4 (text_number order (get_or f.texts 2 0))
    ++ little_bytes 4 0

-- for each text its place and its length, the first one at a place
abbrev pub text_entries : ℕ → List (List ℕ) → List ℕ
text_entries place [] = []
text_entries place (text ∷ texts) =
    little_bytes 8 place ++ little_bytes 8 (length text) ++ text_entries (place + length text) texts

-- the files at these places, one after the other, whose texts are mentioned in that order
abbrev pub file_table : List FileTexts → List ℕ → List ℕ → List ℕ
file_table files file_order text_order =
    flat_map (λ place. file_bytes text_order (get_or files place no_file)) file_order

-- the texts at these places
abbrev pub texts_at : List (List ℕ) → List ℕ → List (List ℕ)
texts_at texts order = map (λ place. get_or texts place []) order

-- how many bytes texts have
abbrev pub total_len : List (List ℕ) → ℕ
total_len [] = 0
total_len (text ∷ texts) = length text + total_len texts
