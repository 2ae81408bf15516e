-- Which places and addresses a sequence covers. DWARF 5, section 6.2.2: address and op_index together are the place of a row, and
-- the end row of a sequence is the first place after it.
use Rattle.std.specs.Prelude.{ℕ, ◌+◌, ◌==◌, ◌&&◌, nat_lt, max, min, Bool, if◌then◌else◌}
use Rattle.dl_look.specs.declared.code_ranges.AddressRange.{AddressRange}
use Rattle.dl_look.specs.declared.place.Place.{Place}
use Rattle.dl_look.specs.Answer.{is_at_most, is_below}
use Rattle.dl_sequence_rules.specs.declared.ended.Ended.{Ended}

-- from the place of its first row up to below that of its end row
abbrev pub covers_place : Place → Ended → Bool
covers_place x s = is_at_most s.first x && is_below x s.row.place

-- the place that is looked up for an address
abbrev pub place_at : (address : ℕ) → Place
place_at a = record { address = a; op_index = 0 }

-- the first address whose place isn't below this one; 2^64 where there is none
abbrev pub first_address : Place → ℕ
first_address p = if p.op_index == 0 then p.address else p.address + 1

-- the sequence covers an address of the range, whose end isn't reckoned modulo 2^64: both have an address in common. Those of the
-- sequence are from the first one of its first row's place up to before that of its end row's
abbrev pub touches : AddressRange → Ended → Bool
touches r s = nat_lt (max (first_address s.first) r.start) (min (first_address s.row.place) (r.start + r.size))
