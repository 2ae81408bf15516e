-- What the definitions of overlaps and of ranges without sequences say.
use Rattle.std.specs.Prelude.{◌≡◌, ℕ, true, false, List, Some, None}
use Rattle.dl_look.specs.declared.code_ranges.AddressRange.{AddressRange}
use Rattle.dl_look.specs.declared.place.Place.{Place}
use Rattle.dl_look.specs.Answer.{is_below}
use Rattle.dl_look.specs.Ranges.{is_in}
use Rattle.dl_sequence_rules.specs.declared.ended.Ended.{Ended}
use Rattle.dl_sequence_rules.specs.Covering.{covers_place, place_at, touches}
use Rattle.dl_sequence_rules.specs.Overlaps.{both_cover, first_of_both}

-- the place that is told is covered by both, and no place below it is
pub record IsFirst (earlier : List Ended) (s : Ended) (x : Place) : Type 0 where
  pub both : both_cover earlier s x ≡ true
  pub first : (y : Place) → both_cover earlier s y ≡ true → is_below y x ≡ false

abbrev pub FirstOfBoth : Type 0
FirstOfBoth = (earlier : List Ended) (s : Ended) (x : Place) → first_of_both earlier s ≡ Some x → IsFirst earlier s x

-- where none is told, both cover no place
abbrev pub NoneOfBoth : Type 0
NoneOfBoth =
    (earlier : List Ended) (s : Ended) → first_of_both earlier s ≡ None → (y : Place) → both_cover earlier s y ≡ false

-- a sequence touches a range where it covers an address of it, and there alone
abbrev pub TouchesAddresses : Type 0
TouchesAddresses =
    (r : AddressRange) (s : Ended)
    → (touches r s ≡ true → (a : ℕ) × (is_in a r ≡ true) × (covers_place (place_at a) s ≡ true))
    × ((a : ℕ) → is_in a r ≡ true → covers_place (place_at a) s ≡ true → touches r s ≡ true)
