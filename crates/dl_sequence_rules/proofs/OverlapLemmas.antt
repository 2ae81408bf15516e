-- What cuts tell of the places that a sequence and one of the earlier ones cover.
use Rattle.std.proofs.Common.{◌≡◌, ◌∙◌, ◌≢◌, ℕ, zero, suc, ◌+◌, ◌<◌, ◌≤◌, true, false, inl, inr, List, [], ◌∷◌, length, get_or, take, Option, Some, None}
use Rattle.std.proofs.Common.{refl, sym, ap, ap₂, subst, ⊎_elim, arith}
use Rattle.std.specs.List.{filter, list_any}
use Rattle.std.proofs.lemmas.Bool.{and_from, and_parts, cases_eq, cases_lt}
use Rattle.std.proofs.lemmas.Bool.Decides.{nat_tests}
use Rattle.std.proofs.lemmas.List.{get_or-map, length-map}
use Rattle.std.proofs.lemmas.Option.{slice_get-get_or}
use Rattle.dl_look.specs.declared.cuts.Cut.{Cut}
use Rattle.dl_look.specs.declared.place.Place.{Place}
use Rattle.dl_look.specs.declared.probed.Span.{Span}
use Rattle.dl_look.specs.Answer.{is_at_most, is_below}
use Rattle.dl_look.specs.Cuts.{AreCuts, cut_place, first_from, no_span}
use Rattle.dl_sequence_rules.specs.declared.ended.Ended.{Ended}
use Rattle.dl_sequence_rules.specs.Alone.{ended_at, no_ended}
use Rattle.dl_sequence_rules.specs.Covering.{covers_place}
use Rattle.dl_sequence_rules.specs.Cutting.{is_other, owner_at, span_of, spans_of}
use Rattle.dl_sequence_rules.specs.Overlaps.{begins, both_cover, first_of_both, least, overlap_at, overlap_found_at, overlap_of, overlap_of_one, overlap_with}
use Rattle.dl_sequence_rules.proofs.OwnerLemmas.{Owned, any_before, found_first, none_owns, one_before, owned}
use Rattle.dl_sequence_rules.proofs.Placed.{In, filter_in, filter_none, in_filter, least_is}
use Rattle.dl_sequence_rules.proofs.PlaceLemmas.{at_most-below, at_most-not_below, at_most_itself, below-at_most, both_at_most, either_at_most, not_below-at_most}

-- ---- places where one of the first sequences begins

in_begins : (sequences : List Ended) (at : ℕ) (x : Place) → In x (begins (take at sequences))
    → (i : ℕ) × (i < at) × (i < length sequences) × ((ended_at sequences i).first ≡ x)
in_begins [] zero x is = absurd is
in_begins [] (suc at) x is = absurd is
in_begins (s ∷ sequences) zero x is = absurd is
in_begins (s ∷ sequences) (suc at) x is =
    ⊎_elim
    (λ here. (0, omega arith, omega arith, here))
    (λ later. (let rest = in_begins sequences at x later in
    (suc rest.0, (let w = rest.1 in omega arith), (let w = rest.2 in omega arith), rest.3)))
    is

begins_in : (sequences : List Ended) (at i : ℕ) → i < at → i < length sequences
    → In (ended_at sequences i).first (begins (take at sequences))
begins_in [] at i lt within = absurd (omega arith)
begins_in (s ∷ sequences) zero i lt within = absurd (omega arith)
begins_in (s ∷ sequences) (suc at) zero lt within = inl refl
begins_in (s ∷ sequences) (suc at) (suc i) lt within = inr (begins_in sequences at i (omega arith) (omega arith))

-- ---- owners

is_other_below : (j at : ℕ) → j < at → is_other at (Some j) ≡ true
is_other_below j at lt = grind (arith, nat_tests)

other-not_same : (j at : ℕ) → is_other at (Some j) ≡ true → j ≢ at
other-not_same j at is same = grind (arith, nat_tests)

module _ (sequences : List Ended) (at : ℕ) (s : Ended) (is : ended_at sequences at ≡ s) (cuts : List Cut)
    (are : AreCuts (spans_of sequences) cuts) (lt : at < length sequences) (low high : ℕ) (within : high ≤ length cuts)
    (under : (k : ℕ) → k < low → is_below (cut_place cuts k) s.first ≡ true)
    (from : (k : ℕ) → low ≤ k → k < length cuts → is_below (cut_place cuts k) s.first ≡ false)
    (upto : (k : ℕ) → k < high → is_below (cut_place cuts k) s.row.place ≡ true)
    (above : (k : ℕ) → high ≤ k → k < length cuts → is_below (cut_place cuts k) s.row.place ≡ false)
  where
    abbrev earlier : List Ended
    earlier = take at sequences

    -- a cut that another sequence answers for, at a place
    record OtherCut (x : Place) : Type 0 where
      cut : ℕ
      from_low : low ≤ cut
      before_high : cut < high
      place : cut_place cuts cut ≡ x
      other : is_other at (owner_at cuts cut) ≡ true

    owner_before : (x : Place) (owner : Option ℕ) → owner ≡ first_from 0 (spans_of sequences) x → covers_place x s ≡ true
        → list_any (covers_place x) earlier ≡ true → is_other at owner ≡ true
    owner_before x None told own any =
        absurd (let none = none_owns 0 sequences x (sym told) at lt in let same = ap (covers_place x) is in cc)
    owner_before x (Some m) told own any =
        let j = owned 0 m sequences x (sym told) in
        let one = one_before sequences x at any in
        let first = j.2 in
        let e = j.1 in
        let less = one.1 in
        ⊎_elim
        (λ (before : one.0 < j.0). absurd (let none = first.before one.0 before in let holds = one.3 in cc))
        (λ (upto : j.0 ≤ one.0). is_other_below m at (omega arith))
        (cases_lt one.0 j.0)

    first_at : (i : ℕ) → i < length sequences → (ended_at sequences i).first ≡ (get_or (spans_of sequences) i no_span).first
    first_at i less = ap (λ (p : Span). p.first) (sym (get_or-map span_of sequences i no_ended no_span less))

    cut_at : (i : ℕ) → i < length sequences → both_cover earlier s (ended_at sequences i).first ≡ true
        → OtherCut (ended_at sequences i).first
    cut_at i less both =
        let x = (ended_at sequences i).first in
        let k = are.begins i (subst (λ n. i < n) (sym (length-map sequences span_of)) less) in
        let place : cut_place cuts k.0 ≡ x = k.2 ∙ sym (first_at i less) in
        let parts = and_parts (covers_place x s) (list_any (covers_place x) earlier) both in
        let own = and_parts (is_at_most s.first x) (is_below x s.row.place) parts.0 in
        record {
          cut = k.0;
          from_low =
              ⊎_elim
              (λ (less : k.0 < low). absurd (let u = ap (λ p. is_below p s.first) (sym place) ∙ under k.0 less in
              let v = at_most-not_below s.first x own.0 in cc))
              (λ (more : low ≤ k.0). more)
              (cases_lt k.0 low);
          before_high =
              ⊎_elim
              (λ (less : k.0 < high). less)
              (λ (more : high ≤ k.0). absurd (let u = ap (λ p. is_below p s.row.place) (sym place) ∙ above k.0 more k.1 in
              let v = own.1 in cc))
              (cases_lt k.0 high);
          place = place;
          other = owner_before x (owner_at cuts k.0) (are.right k.0 k.1 ∙ ap (first_from 0 (spans_of sequences)) place) parts.0 parts.1;
        }

    at_first : (ended_at sequences at).first ≡ s.first
    at_first = ap (λ (e : Ended). e.first) is

    -- the place is one where one of these begins
    some_begun : (x : Place) → In x (begins (s ∷ earlier))
        → (i : ℕ) × (i < length sequences) × ((ended_at sequences i).first ≡ x)
    some_begun x there =
        ⊎_elim
        (λ here. (at, lt, at_first ∙ here))
        (λ later. (let i = in_begins sequences at x later in (i.0, i.2, i.3)))
        there

    abbrev shared : List Place
    shared = filter (both_cover earlier s) (begins (s ∷ earlier))

    -- no cut between is another one's
    module _ (none : (k : ℕ) → low ≤ k → k < high → is_other at (owner_at cuts k) ≡ false) where
      not_both : (x : Place) → In x (begins (s ∷ earlier)) → both_cover earlier s x ≡ false
      not_both x there =
          let i = some_begun x there in
          elim (both_cover earlier s x) as (λ b. both_cover earlier s x ≡ b → b ≡ false) [
            | true ↦ λ both. (
                let k = cut_at i.0 i.1 (ap (both_cover earlier s) i.2 ∙ both) in
                absurd (let e = none k.cut k.from_low k.before_high in let o = k.other in cc))
            | false ↦ λ e. refl
          ] refl

      none_of_both : first_of_both earlier s ≡ None
      none_of_both = ap least (filter_none (both_cover earlier s) (begins (s ∷ earlier)) not_both)

      pub no_overlap : [] ≡ overlap_at sequences at
      no_overlap =
          sym (ap (overlap_found_at earlier s) none_of_both)
          ∙ sym (ap (overlap_of_one earlier) (slice_get-get_or sequences at no_ended lt ∙ ap (λ (e : Ended). Some e) is))

    -- the first one that is
    module _ (k j : ℕ) (le : low ≤ k) (less : k < high) (owner : owner_at cuts k ≡ Some j)
        (other : is_other at (owner_at cuts k) ≡ true)
        (before : (m : ℕ) → low ≤ m → m < k → is_other at (owner_at cuts m) ≡ false) where
      abbrev p : Place
      p = cut_place cuts k

      found : (n : ℕ) × (j ≡ 0 + n) × Owned sequences p n
      found = owned 0 j sequences p (sym (are.right k (omega arith)) ∙ owner)

      first : Owned sequences p j
      first = let e = found.1 in subst (Owned sequences p) (let z : found.0 ≡ j = omega arith in z) found.2

      covers_s : covers_place p s ≡ true
      covers_s =
          and_from (is_at_most s.first p) (is_below p s.row.place)
          (not_below-at_most p s.first (from k le (omega arith))) (upto k less)

      j_before : j < at
      j_before =
          let ne = other-not_same j at (ap (is_other at) (sym owner) ∙ other) in
          ⊎_elim
          (λ (lt : j < at). lt)
          (λ (ge : at ≤ j). ⊎_elim
          (λ (same : at ≡ j). absurd (ne (sym same)))
          (λ (ne : at ≢ j). absurd (let none = first.before at (omega arith) in let holds = covers_s in
          let same = ap (covers_place p) is in cc))
          (cases_eq at j))
          (cases_lt j at)

      abbrev e : Ended
      e = ended_at sequences j

      -- it isn't above another one where one of these begins
      low_at : (i : ℕ) → i < length sequences → both_cover earlier s (ended_at sequences i).first ≡ true
          → is_at_most p (ended_at sequences i).first ≡ true
      low_at i lt' both =
          let c = cut_at i lt' both in
          ⊎_elim
          (λ (lower : c.cut < k). absurd (let none = before c.cut c.from_low lower in let o = c.other in cc))
          (λ (upto : k ≤ c.cut). ap (is_at_most p) (sym c.place) ∙ ⊎_elim
          (λ (same : k ≡ c.cut). ap (λ n. is_at_most p (cut_place cuts n)) (sym same) ∙ at_most_itself p)
          (λ (ne : k ≢ c.cut). below-at_most p (cut_place cuts c.cut)
          (are.rise k c.cut (omega arith) (let h = c.before_high in omega arith)))
          (cases_eq k c.cut))
          (cases_lt c.cut k)

      abbrev s_parts : (is_at_most s.first p ≡ true) × (is_below p s.row.place ≡ true)
      s_parts = and_parts (is_at_most s.first p) (is_below p s.row.place) covers_s

      abbrev e_parts : (is_at_most e.first p ≡ true) × (is_below p e.row.place ≡ true)
      e_parts = and_parts (is_at_most e.first p) (is_below p e.row.place) first.covers

      both_from : (x : Place) → is_at_most s.first x ≡ true → is_at_most e.first x ≡ true → is_at_most x p ≡ true
          → both_cover earlier s x ≡ true
      both_from x after begun upto =
          and_from (covers_place x s) (list_any (covers_place x) earlier)
          (and_from (is_at_most s.first x) (is_below x s.row.place) after (at_most-below x p s.row.place upto s_parts.1))
          (any_before sequences x j at j_before first.within
          (and_from (is_at_most e.first x) (is_below x e.row.place) begun (at_most-below x p e.row.place upto e_parts.1)))

      both_p : both_cover earlier s p ≡ true
      both_p = both_from p s_parts.0 e_parts.0 (at_most_itself p)

      begun_p : In p (begins (s ∷ earlier))
      begun_p =
          ⊎_elim
          (λ (le : is_at_most s.first e.first ≡ true). (
          let same =
          both_at_most e.first p e_parts.0
          (low_at j first.within (both_from e.first le (at_most_itself e.first) e_parts.0)) in
          inr (subst (λ q. In q (begins earlier)) same (begins_in sequences at j j_before first.within))))
          (λ (ge : is_at_most e.first s.first ≡ true). inl
          (both_at_most s.first p s_parts.0
          (ap (is_at_most p) (sym at_first)
          ∙ low_at at lt
          (ap (both_cover earlier s) at_first ∙ both_from s.first (at_most_itself s.first) ge s_parts.0))))
          (either_at_most s.first e.first)

      first_is : first_of_both earlier s ≡ Some p
      first_is =
          least_is shared p (in_filter (both_cover earlier s) (begins (s ∷ earlier)) p begun_p both_p)
          (λ x there. (
          let parts = filter_in (both_cover earlier s) (begins (s ∷ earlier)) x there in
          let i = some_begun x parts.0 in
          ap (is_at_most p) (sym i.2) ∙ low_at i.0 i.1 (ap (both_cover earlier s) i.2 ∙ parts.1)))

      pub other_within : j < length sequences
      other_within = first.within

      pub an_overlap : (place : Place) (other : Ended) → place ≡ p → ended_at sequences j ≡ other
          → overlap_of s place other ∷ [] ≡ overlap_at sequences at
      an_overlap place other there one =
          ap₂ (λ (x : Place) (o : Ended). overlap_of s x o ∷ []) there (sym one)
          ∙ sym (ap (overlap_with s p) (found_first sequences p j at first j_before))
          ∙ sym (ap (overlap_found_at earlier s) first_is)
          ∙ sym (ap (overlap_of_one earlier) (slice_get-get_or sequences at no_ended lt ∙ ap (λ (e : Ended). Some e) is))
