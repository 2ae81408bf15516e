-- The rows of live sequences. Whether a sequence is live is told by the address of its first row: linkers
-- leave the sequences of functions that they drop, at an address where there is no code.
use Rattle.std.specs.Prelude.{◌≡◌, ℕ, ◌<◌, Bool, true, false, ◌&&◌, if◌then◌else◌, List, [], ◌++◌, length, Option}
use Rattle.std.specs.List.{find, flat_map}
use Rattle.std.specs.Option.{option_and_then}
use Rattle.dl_rows.specs.declared.row.Row.{Row}
use Rattle.dl_look.specs.declared.place.Place.{Place}
use Rattle.dl_look.specs.declared.live.LiveRows.{LiveRows}
use Rattle.dl_look.specs.declared.live.At.{At}
use Rattle.dl_look.specs.declared.live.At.TheVariants.{Between, Live, Dead}
use Rattle.dl_look.specs.Answer.{sequences, is_rising, first_place, covers, last_upto}
use Rattle.dl_look.specs.FinderRows.{unended}

abbrev pub is_live : (ℕ → Bool) → List Row → Bool
is_live live s = live (first_place s).address

abbrev pub when_live : (ℕ → Bool) → List Row → List Row
when_live live s = if is_live live s then s else []

-- those of the current sequence too
abbrev pub live_rows : (ℕ → Bool) → List Row → List Row
live_rows live rows = flat_map (when_live live) (sequences rows) ++ when_live live (unended rows)

-- of the first live rising sequence that covers x
abbrev pub live_answer : (ℕ → Bool) → List Row → Place → Option Row
live_answer live rows x =
    option_and_then (last_upto x) (find (λ s. is_live live s && (is_rising s && covers x s)) (sequences rows))

-- what is kept of the rows since the last end row
abbrev pub IsAt : At → (ℕ → Bool) → List Row → Type 0
IsAt Between live s = s ≡ []
IsAt Live live s = (0 < length s) × (is_live live s ≡ true)
IsAt Dead live s = (0 < length s) × (is_live live s ≡ false)

abbrev pub Tells : LiveRows → (ℕ → Bool) → List Row → Type 0
Tells told live rows = IsAt told.at live (unended rows)
