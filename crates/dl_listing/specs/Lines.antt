-- Whether there are texts, and the lines of the stretches of an index by their numbers. No promise rests on this file.
use Rattle.std.specs.Prelude.{ℕ, ◌+◌, ◌-◌, Bool, true, false, List, [], ◌∷◌, map}
use Rattle.std.specs.List.{range_with_len}
use Rattle.dl_index.specs.Layout.{base_in, count_in, start_in}
use Rattle.dl_index.specs.Stretches.{Stretch}
use Rattle.dl_index.specs.Telling.{stretch_in, told_in}
use Rattle.dl_listing.specs.Listing.{begins_at, stretch_line}

abbrev pub has_texts : List (List ℕ) → Bool
has_texts [] = false
has_texts (text ∷ texts) = true

-- the stretches from number k on
abbrev pub stretches_from : List ℕ → ℕ → List Stretch
stretches_from b k = map (stretch_in b) (range_with_len k (count_in b - k))

-- the line of stretch k
abbrev pub line_of : List ℕ → ℕ → List ℕ
line_of b k = stretch_line (base_in b + start_in b k) (begins_at (stretches_from b (k + 1))) (told_in b k)
