-- Which row of the current sequence each slot has, in stretches of slots. No promise rests on how this is said.
use Rattle.std.specs.Prelude.{ℕ, ◌<◌, ◌≤◌, ◌&&◌, if◌then◌else◌, nat_le, nat_lt, List, [], ◌∷◌, length, slice_index_or}
use Rattle.std.specs.Prelude.{Option, Some, None}
use Rattle.dl_rows.specs.declared.row.Row.{Row}
use Rattle.dl_look.specs.declared.trail.Stretch.{Stretch}
use Rattle.dl_look.specs.Ledgers.{no_row}

-- for the places past the end of a list of stretches
abbrev pub no_stretch : Stretch
no_stretch = record { start = 0; row = no_row }

-- where the slots after a stretch begin: where the next one does, or at the end
abbrev pub start_of : List Stretch → ℕ → ℕ
start_of [] end = end
start_of (s ∷ trail) end = s.start

-- the row of the stretch that has the slot j
abbrev pub row_at : List Stretch → ℕ → ℕ → Option Row
row_at [] end j = None
row_at (s ∷ trail) end j =
    if nat_le s.start j && nat_lt j (start_of trail end) then Some s.row else row_at trail end j

-- each stretch starts at a slot
abbrev pub StartsWithin : ℕ → List Stretch → Type 0
StartsWithin count trail = (k : ℕ) → k < length trail → (slice_index_or trail k no_stretch).start ≤ count
