-- A law of the sequences of a range. DWARF 5, sections 2.17.3 and 6.2.2.
use Rattle.std.specs.Prelude.{◌≡◌, ◌↔◌, true, List}
use Rattle.dl_look.specs.Answer.{covers}
use Rattle.dl_look.specs.Ranges.{is_in}
use Rattle.dl_look.specs.declared.code_ranges.AddressRange.{AddressRange}
use Rattle.dl_look.specs.declared.place.Place.{Place}
use Rattle.dl_rows.specs.declared.row.Row.{Row}
use Rattle.dl_dump.specs.RangeText.{covers_some}

-- a sequence is wanted just where it covers a place whose address is in the range
abbrev pub WantedSequencesCover : Type 0
WantedSequencesCover =
    (range : AddressRange) (sequence : List Row) → (covers_some range sequence ≡ true)
    ↔ ((x : Place) × (is_in x.address range ≡ true) × (covers x sequence ≡ true))
