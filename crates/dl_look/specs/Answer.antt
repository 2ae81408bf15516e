-- The row that answers for a place. DWARF 5, section 6.2.2: address and op_index together are the place
-- of a row, rows come in sequences, and the end row of a sequence is the first place after it.
use Rattle.std.specs.Prelude.{Bool, true, ◌&&◌, ◌||◌, ◌==◌, nat_lt, nat_le, if◌then◌else◌, List, [], ◌∷◌, ◌++◌, reverse}
use Rattle.std.specs.Prelude.{Option}
use Rattle.std.specs.List.{find}
use Rattle.std.specs.Option.{option_and_then}
use Rattle.dl_rows.specs.declared.row.Row.{Row}
use Rattle.dl_look.specs.declared.place.Place.{Place}

abbrev pub place_of : Row → Place
place_of r = record { address = r.address; op_index = r.op_index }

-- by address, then by op_index
abbrev pub is_below : Place → Place → Bool
is_below p q = nat_lt p.address q.address || (p.address == q.address && nat_lt p.op_index q.op_index)

abbrev pub is_at_most : Place → Place → Bool
is_at_most p q = nat_lt p.address q.address || (p.address == q.address && nat_le p.op_index q.op_index)

-- the runs of rows up to and with an end row; begun: the rows since the last end row
abbrev pub sequences_after : List Row → List Row → List (List Row)
sequences_after begun [] = []
sequences_after begun (r ∷ rows) =
    if r.end_sequence then (begun ++ r ∷ []) ∷ sequences_after [] rows else sequences_after (begun ++ r ∷ []) rows

-- rows without an end row after them are in no sequence
abbrev pub sequences : List Row → List (List Row)
sequences rows = sequences_after [] rows

-- no row's place is below that of the row before it, as section 6.2.5 has it of a sequence
abbrev pub is_rising : List Row → Bool
is_rising [] = true
is_rising (r ∷ []) = true
is_rising (r ∷ s ∷ rows) = is_at_most (place_of r) (place_of s) && is_rising (s ∷ rows)

-- the places of a sequence's first row and of its end row; a sequence has a row
abbrev pub first_place : List Row → Place
first_place [] = record { address = 0; op_index = 0 }
first_place (r ∷ rows) = place_of r

abbrev pub last_place : List Row → Place
last_place [] = record { address = 0; op_index = 0 }
last_place (r ∷ []) = place_of r
last_place (r ∷ s ∷ rows) = last_place (s ∷ rows)

-- from the place of its first row up to below that of its end row
abbrev pub covers : Place → List Row → Bool
covers x sequence = is_at_most (first_place sequence) x && is_below x (last_place sequence)

-- the last row whose place isn't above x
abbrev pub last_upto : Place → List Row → Option Row
last_upto x rows = find (λ r. is_at_most (place_of r) x) (reverse rows)

-- of the first rising sequence that covers x
abbrev pub answer : List Row → Place → Option Row
answer rows x =
    option_and_then (last_upto x) (find (λ sequence. is_rising sequence && covers x sequence) (sequences rows))
