-- The first place that a sequence and one of the earlier ones cover.
use Rattle.std.proofs.Common.{◌≡◌, true, false, inl, inr, List, [], ◌∷◌}
use Rattle.std.proofs.Common.{refl, ap, ⊎_elim}
use Rattle.std.specs.Prelude.{◌||◌}
use Rattle.std.specs.List.{filter, list_any}
use Rattle.std.proofs.lemmas.Bool.{and_from, and_parts}
use Rattle.dl_look.specs.declared.place.Place.{Place}
use Rattle.dl_look.specs.Answer.{is_at_most, is_below}
use Rattle.dl_sequence_rules.specs.declared.ended.Ended.{Ended}
use Rattle.dl_sequence_rules.specs.Covering.{covers_place}
use Rattle.dl_sequence_rules.specs.Laws.{FirstOfBoth, NoneOfBoth}
use Rattle.dl_sequence_rules.specs.Overlaps.{begins, both_cover}
use Rattle.dl_sequence_rules.proofs.Placed.{In, filter_in, in_filter, is_least, least_none}
use Rattle.dl_sequence_rules.proofs.PlaceLemmas.{at_most-below, at_most-not_below, at_most_after, at_most_itself, either_at_most}

-- where one of the earlier ones covers y: the place where it begins, or the sequence, whichever is later, is covered by both
pub record Begun (earlier : List Ended) (s : Ended) (y : Place) : Type 0 where
  pub place : Place
  pub begins_there : In place (begins (s ∷ earlier))
  pub both : both_cover earlier s place ≡ true
  pub upto : is_at_most place y ≡ true

-- an earlier one covers y
pub record Covered (earlier : List Ended) (y : Place) : Type 0 where
  pub other : Ended
  pub there : In other.first (begins earlier)
  pub covers : covers_place y other ≡ true
  pub any : (x : Place) → covers_place x other ≡ true → list_any (covers_place x) earlier ≡ true

covered : (earlier : List Ended) (y : Place) → list_any (covers_place y) earlier ≡ true → Covered earlier y
covered [] y any = cc
covered (e ∷ earlier) y any =
    elim (covers_place y e) as (λ b. covers_place y e ≡ b → (b || list_any (covers_place y) earlier) ≡ true
    → Covered (e ∷ earlier) y) [
      | true ↦ λ is any. record {
        other = e;
        there = inl refl;
        covers = is;
        any = λ x covers. ap (λ b. b || list_any (covers_place x) earlier) covers;
      }
      | false ↦ λ is any. (let rest = covered earlier y any in
          record {
            other = rest.other;
            there = inr rest.there;
            covers = rest.covers;
            any = λ x covers. (let h = rest.any x covers in
                elim (covers_place x e) as (λ b. (b || list_any (covers_place x) earlier) ≡ true) [ true ↦ refl | false ↦ h ]);
          })
    ] refl any

module _ (earlier : List Ended) (s : Ended) (y : Place) (both : both_cover earlier s y ≡ true) where
  abbrev parts : (covers_place y s ≡ true) × (list_any (covers_place y) earlier ≡ true)
  parts = and_parts (covers_place y s) (list_any (covers_place y) earlier) both

  abbrev there : Covered earlier y
  there = covered earlier y parts.1

  abbrev own : (is_at_most s.first y ≡ true) × (is_below y s.row.place ≡ true)
  own = and_parts (is_at_most s.first y) (is_below y s.row.place) parts.0

  abbrev others : (is_at_most there.other.first y ≡ true) × (is_below y there.other.row.place ≡ true)
  others = and_parts (is_at_most there.other.first y) (is_below y there.other.row.place) there.covers

  at : (x : Place) → is_at_most s.first x ≡ true → is_at_most there.other.first x ≡ true → is_at_most x y ≡ true
      → both_cover earlier s x ≡ true
  at x from after upto =
      and_from (covers_place x s) (list_any (covers_place x) earlier)
      (and_from (is_at_most s.first x) (is_below x s.row.place) from (at_most-below x y s.row.place upto own.1))
      (there.any x
      (and_from (is_at_most there.other.first x) (is_below x there.other.row.place) after
      (at_most-below x y there.other.row.place upto others.1)))

  pub begun : Begun earlier s y
  begun =
      ⊎_elim
      (λ le. record {
        place = there.other.first;
        begins_there = inr there.there;
        both = at there.other.first le (at_most_itself there.other.first) others.0;
        upto = others.0;
      })
      (λ ge. record {
        place = s.first;
        begins_there = inl refl;
        both = at s.first (at_most_itself s.first) ge own.0;
        upto = own.0;
      })
      (either_at_most s.first there.other.first)

abbrev both_at : List Ended → Ended → List Place
both_at earlier s = filter (both_cover earlier s) (begins (s ∷ earlier))

pub first_of_both_is : FirstOfBoth
first_of_both_is earlier s x is =
    let low = is_least (both_at earlier s) x is in
    record {
      both = (filter_in (both_cover earlier s) (begins (s ∷ earlier)) x low.0).1;
      first =
          λ y both. (
          let b = begun earlier s y both in
          let below = low.1 b.place (in_filter (both_cover earlier s) (begins (s ∷ earlier)) b.place b.begins_there b.both) in
          at_most-not_below x y (at_most_after x b.place y below b.upto));
    }

pub none_of_both_is : NoneOfBoth
none_of_both_is earlier s is y =
    elim (both_cover earlier s y) as (λ b. both_cover earlier s y ≡ b → b ≡ false) [
      | true ↦ λ both. (
          let b = begun earlier s y both in
          absurd (least_none (both_at earlier s) is b.place
          (in_filter (both_cover earlier s) (begins (s ∷ earlier)) b.place b.begins_there b.both)))
      | false ↦ λ e. refl
    ] refl
