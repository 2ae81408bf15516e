-- What cuts tell of the addresses of a range.
use Rattle.std.proofs.Common.{◌≡◌, ◌∙◌, ℕ, zero, suc, ◌+◌, ◌-◌, ◌<◌, ◌≤◌, Bool, true, false, List, [], ◌∷◌, length, Option, Some, None}
use Rattle.std.proofs.Common.{refl, sym, ap, ap₂, ⊎_elim, arith}
use Rattle.std.specs.Prelude.{◌&&◌, ◌||◌, if◌then◌else◌, nat_le, nat_lt, slice_get}
use Rattle.std.specs.List.{list_any}
use Rattle.std.proofs.lemmas.Bool.{cases_lt}
use Rattle.std.proofs.lemmas.Bool.Decides.{nat_tests}
use Rattle.std.proofs.lemmas.Option.{slice_get-get_or}
use Rattle.dl_look.specs.declared.code_ranges.AddressRange.{AddressRange}
use Rattle.dl_look.specs.declared.cuts.Cut.{Cut}
use Rattle.dl_look.specs.declared.place.Place.{Place}
use Rattle.dl_look.specs.Answer.{is_at_most}
use Rattle.dl_look.specs.Cuts.{AreCuts, covers_span, cut_place, first_from, no_span}
use Rattle.dl_look.specs.Ranges.{is_in}
use Rattle.dl_look.proofs.CutAnswers.{cut_tells, none_covers}
use Rattle.dl_sequence_rules.specs.declared.ended.Ended.{Ended}
use Rattle.dl_sequence_rules.specs.Alone.{ended_at, no_ended}
use Rattle.dl_sequence_rules.specs.Covering.{covers_place, first_address, place_at, touches}
use Rattle.dl_sequence_rules.specs.Cutting.{DoRise, address_span_of, address_spans_of, has_address, one_touches, owner_at, owner_touches, span_of, spans_of}
use Rattle.dl_sequence_rules.proofs.OwnerLemmas.{none_owns, owned}
use Rattle.dl_sequence_rules.proofs.PlaceLemmas.{at_most_after, below-at_most}
use Rattle.dl_sequence_rules.proofs.TouchLemmas.{covers_address, touches_addresses}

none_between : (first end a : ℕ) → nat_lt first end ≡ false → (nat_le first a && nat_lt a end) ≡ false
none_between first end a h = grind (arith, nat_tests)

-- of the place of an address the spans of those that cover one tell what all do
covers_at : (a : ℕ) (s : Ended) → covers_span (place_at a) (address_span_of s) ≡ covers_place (place_at a) s
covers_at a s =
    elim (has_address s) as (λ b. has_address s ≡ b
    → covers_span (place_at a) (if b then span_of s else no_span) ≡ covers_place (place_at a) s) [
      | true ↦ λ is. refl
      | false ↦ λ is. sym (covers_address a s ∙ none_between (first_address s.first) (first_address s.row.place) a is)
    ] refl

first_at : (n : ℕ) (sequences : List Ended) (a : ℕ)
    → first_from n (address_spans_of sequences) (place_at a) ≡ first_from n (spans_of sequences) (place_at a)
first_at n [] a = refl
first_at n (s ∷ sequences) a =
    ap₂ (λ (b : Bool) (o : Option ℕ). if b then Some n else o) (covers_at a s) (first_at (suc n) sequences a)

-- how many cuts aren't above a place
pub record Reached (cuts : List Cut) (x : Place) (after : ℕ) : Type 0 where
  pub within : after ≤ length cuts
  pub upto : (k : ℕ) → k < after → is_at_most (cut_place cuts k) x ≡ true
  pub above : (k : ℕ) → after ≤ k → k < length cuts → is_at_most (cut_place cuts k) x ≡ false

-- one of these sequences touches the range
some_touches : (r : AddressRange) (sequences : List Ended) → list_any (touches r) sequences ≡ true
    → (i : ℕ) × (i < length sequences) × (touches r (ended_at sequences i) ≡ true)
some_touches r [] any = cc
some_touches r (s ∷ sequences) any =
    elim (touches r s) as (λ b. touches r s ≡ b → (b || list_any (touches r) sequences) ≡ true
    → (i : ℕ) × (i < length (s ∷ sequences)) × (touches r (ended_at (s ∷ sequences) i) ≡ true)) [
      | true ↦ λ is any. (0, omega arith, is)
      | false ↦ λ is any. (let rest = some_touches r sequences any in
          (suc rest.0, (let w = rest.1 in omega arith), rest.2))
    ] refl any

-- the cuts of all places
reach : (cuts : List Cut) (rise : DoRise cuts) (x : Place) (n : ℕ) → n ≤ length cuts
    → ((k : ℕ) → n ≤ k → k < length cuts → is_at_most (cut_place cuts k) x ≡ false)
    → (after : ℕ) × Reached cuts x after
reach cuts rise x zero le above =
    (0, record { within = omega arith; upto = λ k lt. absurd (omega arith); above = above })
reach cuts rise x (suc n) le above =
    elim (is_at_most (cut_place cuts n) x) as (λ b. is_at_most (cut_place cuts n) x ≡ b
    → (after : ℕ) × Reached cuts x after) [
      | true ↦ λ is. (
        suc n,
        record {
          within = le;
          upto =
              λ k lt. ⊎_elim
              (λ (lower : k < n). at_most_after (cut_place cuts k) (cut_place cuts n) x
              (below-at_most (cut_place cuts k) (cut_place cuts n) (rise k n lower (omega arith))) is)
              (λ (upper : n ≤ k). (let same : n ≡ k = omega arith in ap (λ m. is_at_most (cut_place cuts m) x) (sym same) ∙ is))
              (cases_lt k n);
          above = above;
        },
      )
      | false ↦ λ is. reach cuts rise x n (omega arith)
          (λ k from lt. ⊎_elim
          (λ (same : k < suc n). (let here : n ≡ k = omega arith in ap (λ m. is_at_most (cut_place cuts m) x) (sym here) ∙ is))
          (λ (more : suc n ≤ k). above k more lt)
          (cases_lt k (suc n)))
    ] refl

at_most_of : (p : Place) (a b : ℕ) → a ≤ b → is_at_most p (place_at a) ≡ true → is_at_most p (place_at b) ≡ true
at_most_of p a b le is = grind (arith, nat_tests)

address_upto : (p : Place) (a : ℕ) → is_at_most p (place_at a) ≡ true → p.address ≤ a
address_upto p a is = grind (arith, nat_tests)

in_range : (a start size : ℕ) → is_in a (record { start = start; size = size }) ≡ true → (start ≤ a) × (a < start + size)
in_range a start size is = (grind (arith, nat_tests), grind (arith, nat_tests))

module _ (sequences : List Ended) (cuts : List Cut) (are : AreCuts (address_spans_of sequences) cuts) (r : AddressRange)
    (upto low high : ℕ) (reached : Reached cuts (place_at r.start) upto) (is_low : low ≡ upto - 1) (within : high ≤ length cuts)
    (ends : (k : ℕ) → high ≤ k → k < length cuts → r.start + r.size ≤ (cut_place cuts k).address)
    (none : (k : ℕ) → low ≤ k → k < high → owner_touches sequences r (owner_at cuts k) ≡ false) where
  -- the owner of the last cut that isn't above an address of the range covers the address where a sequence does
  module _ (a : ℕ) (there : is_in a r ≡ true) (i : ℕ) (less : i < length sequences)
      (covers : covers_place (place_at a) (ended_at sequences i) ≡ true) where
    abbrev bounds : (r.start ≤ a) × (a < r.start + r.size)
    bounds = in_range a r.start r.size there

    last : (after : ℕ) × Reached cuts (place_at a) after
    last = reach cuts are.rise (place_at a) (length cuts) (omega arith) (λ k le lt. absurd (omega arith))

    owner_covers : (owner : Option ℕ) → owner ≡ first_from 0 (spans_of sequences) (place_at a)
        → owner_touches sequences r owner ≡ true
    owner_covers None told =
        absurd (let no = none_owns 0 sequences (place_at a) (sym told) i less in let yes = covers in cc)
    owner_covers (Some m) told =
        let j = owned 0 m sequences (place_at a) (sym told) in
        let own = j.2 in
        let same : m ≡ j.0 = (let e = j.1 in omega arith) in
        ap (λ n. one_touches r (slice_get sequences n)) same
        ∙ ap (one_touches r) (slice_get-get_or sequences j.0 no_ended own.within)
        ∙ (touches_addresses r (ended_at sequences j.0)).1 a there own.covers

    some : 0 < last.0
    some =
        ⊎_elim
        (λ (zero : last.0 < 1). absurd (
        let none : last.0 ≡ 0 = omega arith in
        let no = sym (first_at 0 sequences a)
        ∙ none_covers (address_spans_of sequences) cuts are (place_at a) last.0 last.1.within last.1.upto last.1.above none in
        let not = none_owns 0 sequences (place_at a) no i less in
        let yes = covers in
        cc))
        (λ (more : 1 ≤ last.0). omega arith)
        (cases_lt last.0 1)

    telling : owner_touches sequences r (owner_at cuts (last.0 - 1)) ≡ true
    telling =
        owner_covers (owner_at cuts (last.0 - 1))
        (cut_tells (address_spans_of sequences) cuts are (place_at a) last.0 last.1.within last.1.upto last.1.above some
        ∙ first_at 0 sequences a)

    -- it isn't before the one of the range's start
    from_low : low ≤ last.0 - 1
    from_low =
        let p = some in
        let l = last.1.within in
        ⊎_elim
        (λ (less : last.0 < upto). absurd (
        let u = reached.within in
        let not = last.1.above (upto - 1) (omega arith) (omega arith) in
        let is =
        at_most_of (cut_place cuts (upto - 1)) r.start a bounds.0 (reached.upto (upto - 1) (omega arith)) in
        cc))
        (λ (more : upto ≤ last.0). omega arith)
        (cases_lt last.0 upto)

    before_high : last.0 - 1 < high
    before_high =
        let p = some in
        ⊎_elim
        (λ (less : last.0 - 1 < high). less)
        (λ (more : high ≤ last.0 - 1). absurd (
        let l = last.1.within in
        let b = bounds.1 in
        let far = ends (last.0 - 1) more (omega arith) in
        let near = address_upto (cut_place cuts (last.0 - 1)) a (last.1.upto (last.0 - 1) (omega arith)) in
        omega arith))
        (cases_lt (last.0 - 1) high)

    absurdly : ⊥
    absurdly = let no = none (last.0 - 1) from_low before_high in let yes = telling in cc

  pub none_touches : list_any (touches r) sequences ≡ false
  none_touches =
      elim (list_any (touches r) sequences) as (λ b. list_any (touches r) sequences ≡ b → b ≡ false) [
        | true ↦ λ any. (
            let i = some_touches r sequences any in
            let a = (touches_addresses r (ended_at sequences i.0)).0 i.2 in
            absurd (absurdly a.0 a.1 i.0 i.1 a.2))
        | false ↦ λ e. refl
      ] refl
