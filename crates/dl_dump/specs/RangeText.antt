-- The text of the sequences that cover an address of a range, each whole, and of the units that have one. DWARF 5, sections
-- 2.17.3, 6.2.2 and 6.2.5.
use Rattle.std.specs.Prelude.{ℕ, ◌+◌, Bool, ◌&&◌, if◌then◌else◌, nat_lt, List, [], ◌∷◌, ◌++◌, map, Option, Some, None}
use Rattle.dl_field.specs.HeaderData.{HeaderData}
use Rattle.dl_head.specs.declared.header.HeaderLengths.{HeaderLengths}
use Rattle.dl_rows.specs.Items.{a_byte, a_row, an_operation}
use Rattle.dl_rows.specs.declared.row.Row.{Row}
use Rattle.dl_look.specs.Answer.{first_place, is_below, last_place}
use Rattle.dl_look.specs.declared.code_ranges.AddressRange.{AddressRange}
use Rattle.dl_look.specs.declared.place.Place.{Place}
use Rattle.dl_sections.specs.Section.{Visit, of_header, of_item, of_version}
use Rattle.dl_dump.specs.declared.held_sequence.HeldItem.{HeldItem}
use Rattle.dl_dump.specs.declared.held_sequence.HeldItem.TheVariants as held
use Rattle.dl_dump.specs.declared.reached.Reached.{Reached}
use Rattle.dl_dump.specs.DetailText.{DetailStyle, header_shown, reached_after, shown_after}
use Rattle.dl_dump.specs.Reached.{at_program, before_units}

-- ---- whether a sequence covers an address of a range

-- of a place, or of the first one of the range, which is above
abbrev pub first_within : AddressRange → Place → Place
first_within range p =
    if nat_lt p.address range.start then record { address = range.start; op_index = 0 } else p

-- from the first place up to below the last one there is a place whose address is in the range
abbrev pub covers_between : AddressRange → (first last : Place) → Bool
covers_between range first last =
    is_below (first_within range first) last && nat_lt (first_within range first).address (range.start + range.size)

-- the sequence covers a place whose address is in the range, as `covers` of dl_look has it
abbrev pub covers_some : AddressRange → List Row → Bool
covers_some range sequence = covers_between range (first_place sequence) (last_place sequence)

-- ---- what is told of a sequence, under the header of its unit

abbrev pub rows_held : List HeldItem → List Row
rows_held [] = []
rows_held (held.Row r ∷ items) = r ∷ rows_held items
rows_held (item ∷ items) = rows_held items

abbrev pub visit_held : HeaderData → HeldItem → Visit
visit_held h (held.Byte b) = of_item (a_byte b)
visit_held h (held.Operation o) = of_item (an_operation h o)
visit_held h (held.Row r) = of_item (a_row h r)

abbrev pub visits_held : HeaderData → List HeldItem → List Visit
visits_held h items = map (visit_held h) items

-- ---- how far a section has come

pub record Sequence : Type 0 where
  -- that where the current sequence begins
  pub at : Reached
  -- how long the current unit is, where its lines weren't shown
  pub unit : Option HeaderLengths
  -- what was told of the sequence, as far as it is shown
  pub items : List HeldItem

abbrev pub before_sequences : Sequence
before_sequences = record { at = before_units; unit = None; items = [] }

abbrev pub with_item : Sequence → HeldItem → Sequence
with_item s item = record s { items = s.items ++ item ∷ [] }

-- the lines of a unit, where they weren't shown
abbrev pub unit_lines : DetailStyle → Reached → HeaderData → Option HeaderLengths → List ℕ
unit_lines style at h None = []
unit_lines style at h (Some lengths) = header_shown style at.unit lengths h

-- the lines of a sequence, and before the first one of a unit those of the unit
abbrev pub sequence_lines : DetailStyle → Sequence → HeaderData → List ℕ
sequence_lines style s h = unit_lines style s.at h s.unit ++ shown_after style s.at (visits_held h s.items)

-- after the sequence
abbrev pub sequence_over : DetailStyle → AddressRange → Sequence → HeaderData → Sequence
sequence_over style range s h = record {
  at = reached_after style s.at (visits_held h s.items);
  unit = if covers_some range (rows_held s.items) then None else s.unit;
  items = [];
}

-- after a visit
abbrev pub sequence_after : DetailStyle → AddressRange → Sequence → Visit → Sequence
sequence_after style range s (of_header offset lengths h) =
    record { at = at_program offset lengths h; unit = Some lengths; items = [] }
sequence_after style range s (of_version offset version) = record s { unit = None; items = [] }
sequence_after style range s (of_item (a_byte b)) = if style.details.operations then with_item s (held.Byte b) else s
sequence_after style range s (of_item (an_operation h o)) =
    if style.details.operations then with_item s (held.Operation o) else s
sequence_after style range s (of_item (a_row h r)) =
    if r.end_sequence then sequence_over style range (with_item s (held.Row r)) h else with_item s (held.Row r)
sequence_after style range s visit = s

-- at an end row the lines of its sequence, where that is wanted
abbrev pub range_shown : DetailStyle → AddressRange → Sequence → Visit → List ℕ
range_shown style range s (of_item (a_row h r)) =
    if r.end_sequence && covers_some range (rows_held (s.items ++ held.Row r ∷ []))
    then sequence_lines style (with_item s (held.Row r)) h else []
range_shown style range s visit = []

-- ---- visits, one after the other

abbrev pub sequence_along : DetailStyle → AddressRange → Sequence → List Visit → Sequence
sequence_along style range s [] = s
sequence_along style range s (visit ∷ visits) = sequence_along style range (sequence_after style range s visit) visits

abbrev pub range_along : DetailStyle → AddressRange → Sequence → List Visit → List ℕ
range_along style range s [] = []
range_along style range s (visit ∷ visits) =
    range_shown style range s visit ++ range_along style range (sequence_after style range s visit) visits

-- of a section
abbrev pub range_text : DetailStyle → AddressRange → List Visit → List ℕ
range_text style range visits = range_along style range before_sequences visits

-- what was told of the current sequence
abbrev pub held_along : DetailStyle → AddressRange → List Visit → List HeldItem
held_along style range visits = (sequence_along style range before_sequences visits).items
