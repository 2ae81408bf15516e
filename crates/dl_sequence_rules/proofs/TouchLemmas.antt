-- Sequences that touch ranges.
use Rattle.std.proofs.Common.{◌≡◌, ◌∙◌, ℕ, ◌+◌, max, min, Bool, true, sym, ap₂, arith}
use Rattle.std.specs.Prelude.{◌&&◌, nat_le, nat_lt}
use Rattle.std.proofs.lemmas.Bool.Decides.{nat_tests}
use Rattle.dl_look.specs.declared.place.Place.{Place}
use Rattle.dl_look.specs.Answer.{is_at_most, is_below}
use Rattle.dl_sequence_rules.specs.declared.ended.Ended.{Ended}
use Rattle.dl_sequence_rules.specs.Covering.{covers_place, first_address, place_at}
use Rattle.dl_sequence_rules.specs.Laws.{TouchesAddresses}

at_most_address : (p : Place) (a : ℕ) → is_at_most p (place_at a) ≡ nat_le (first_address p) a
at_most_address p a = grind (arith, nat_tests)

below_address : (p : Place) (a : ℕ) → is_below (place_at a) p ≡ nat_lt a (first_address p)
below_address p a = grind (arith, nat_tests)

-- its addresses
pub covers_address : (a : ℕ) (s : Ended)
    → covers_place (place_at a) s ≡ (nat_le (first_address s.first) a && nat_lt a (first_address s.row.place))
covers_address a s = ap₂ (λ (b c : Bool). b && c) (at_most_address s.first a) (below_address s.row.place a)

meet : (first end start after : ℕ) → nat_lt (max first start) (min end after) ≡ true
    → ((nat_le start (max first start) && nat_lt (max first start) after) ≡ true)
    × ((nat_le first (max first start) && nat_lt (max first start) end) ≡ true)
meet first end start after h = (grind (arith, nat_tests), grind (arith, nat_tests))

met : (first end start after a : ℕ) → (nat_le start a && nat_lt a after) ≡ true → (nat_le first a && nat_lt a end) ≡ true
    → nat_lt (max first start) (min end after) ≡ true
met first end start after a h i = grind (arith, nat_tests)

pub touches_addresses : TouchesAddresses
touches_addresses r s = (
  λ h. (
      let first = first_address s.first in
      let m = meet first (first_address s.row.place) r.start (r.start + r.size) h in
      (max first r.start, m.0, covers_address (max first r.start) s ∙ m.1)),
  λ a within covers. met (first_address s.first) (first_address s.row.place) r.start (r.start + r.size) a within
      (sym (covers_address a s) ∙ covers),
)
