-- The addresses that are asked for.
use Rattle.std.specs.Prelude.{ℕ, ◌-◌, nat_le, if◌then◌else◌, Option, Some, None, unwrap_or}
use Rattle.std.specs.Option.{option_and_then}
use Rattle.dl_look.specs.declared.place.Place.{Place}
use Rattle.dl_look.specs.declared.asked.Asked.{Asked}

abbrev pub place_above : ℕ → ℕ → Option Place
place_above base address =
    if nat_le base address then Some (record { address = address - base; op_index = 0 }) else None

-- the place that is looked up: the address less the base; none below 0, and none of a line that is no address
abbrev pub place_of : (base : ℕ) → Asked → Option Place
place_of base a = option_and_then (place_above base) a.address

-- the last of all places, which no sequence covers
abbrev pub last : Place
last = record { address = 0xffffffffffffffff; op_index = 0xff }

-- what has no place is looked up at the last one
abbrev pub looked_up : (base : ℕ) → Asked → Place
looked_up base a = unwrap_or (place_of base a) last
