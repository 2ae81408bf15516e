-- What an index tells of an address.
use Rattle.std.specs.Prelude.{ℕ, ◌≡◌, ◌+◌, ◌-◌, ◌^◌, ◌<◌, ◌≤◌, ◌⊎◌, ◌==◌, ◌&&◌, Bool, if◌then◌else◌, List, [], ◌∷◌, ◌++◌, map, take, drop, nat_le, Option, Some, None, MatchOption}
use Rattle.std.specs.List.{range_with_len}
use Rattle.std.specs.Option.{option_map, option_and_then}
use Rattle.dl_index.specs.Layout.{base_in, count_in, files_in, texts_in, text_bytes_in, part, start_in, file_in}
use Rattle.dl_index.specs.Layout.{line_in, column_in, discriminator_in, is_stmt_in, unit_in, text_number_in}
use Rattle.dl_index.specs.Layout.{text_place_in, text_len_in}
use Rattle.dl_index.specs.Stretches.{Told, Stretch, told_at}

-- whether text t lies in the bytes of texts
abbrev pub lies_within : List ℕ → ℕ → Bool
lies_within b t = nat_le (text_place_in b t + text_len_in b t) (text_bytes_in b)

abbrev pub text_bytes : List ℕ → ℕ → List ℕ
text_bytes b t = take (text_len_in b t) (drop (text_place_in b t) (part b 8))

-- the text of a number, from 1: no text for 0; None where there is none of that number, or it lies outside
abbrev pub text_in : List ℕ → ℕ → Option (List (List ℕ))
text_in b n =
    if n == 0 then Some [] else if nat_le n (texts_in b) && lies_within b (n - 1) then Some (text_bytes b (n - 1) ∷ [])
    else None

-- these texts and one more
abbrev pub with_text : Option (List (List ℕ)) → Option (List (List ℕ)) → Option (List (List ℕ))
with_text texts more = option_and_then (λ ts. option_map (λ t. ts ++ t) more) texts

-- the texts of file f
abbrev pub texts_of : List ℕ → ℕ → Option (List (List ℕ))
texts_of b f =
    with_text (with_text (text_in b (text_number_in b f 0)) (text_in b (text_number_in b f 1)))
    (text_in b (text_number_in b f 2))

-- what stretch k tells, of file f with these texts
abbrev pub told_of : List ℕ → ℕ → ℕ → List (List ℕ) → Told
told_of b k f texts = record {
  unit = unit_in b f;
  parts = texts;
  line = line_in b k;
  column = column_in b k;
  discriminator = discriminator_in b k;
  is_stmt = is_stmt_in b k;
}

-- what stretch k tells: nothing in a gap, nor where its file or a text lies outside
abbrev pub told_in : List ℕ → ℕ → Option Told
told_in b k =
    if nat_le 1 (file_in b k) && nat_le (file_in b k) (files_in b)
    then option_map (told_of b k (file_in b k - 1)) (texts_of b (file_in b k - 1)) else None

abbrev pub stretch_in : List ℕ → ℕ → Stretch
stretch_in b k = record { start = base_in b + start_in b k; told = told_in b k }

abbrev pub stretches_in : List ℕ → List Stretch
stretches_in b = map (stretch_in b) (range_with_len 0 (count_in b))

-- what an index answers
abbrev pub find_in : List ℕ → ℕ → Option Told
find_in b a = told_at (stretches_in b) a

-- the first address of stretch k; none where there is none, or it is 2^64 or above
abbrev pub IsStart : List ℕ → ℕ → Option ℕ → Type 0
IsStart b k start =
    MatchOption start ((count_in b ≤ k) ⊎ (2 ^ 64 ≤ base_in b + start_in b k))
    (λ a. (k < count_in b) × (a ≡ base_in b + start_in b k))
