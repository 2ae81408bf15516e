-- The cuts of an index.
use Rattle.std.proofs.Common.{◌≡◌, ℕ, zero, suc, ◌+◌, ◌-◌, ◌*◌, ◌<◌, ◌≤◌, ◌≢◌, min, Bool, true, false, ◌&&◌, ◌⊎◌, inl}
use Rattle.std.proofs.Common.{inr, List, [], ◌∷◌, ◌++◌, length, take, get_or, set, flat_map, Option, Some, None}
use Rattle.std.proofs.Common.{is_none, arith, refl, sym, ap, ap₂, ◌∙◌, ⊎_elim, length-set, get_or-set_same}
use Rattle.std.proofs.Common.{get_or-set_other}
use Rattle.std.specs.Prelude.{if◌then◌else◌, nat_le, nat_lt}
use Rattle.std.specs.Option.{option_or}
use Rattle.std.proofs.lemmas.Bool.{cases_eq, cases_lt, le-leb, lt-leb}
use Rattle.std.proofs.lemmas.List.{take_more, length-take-le, length_push, get_or_push, get_or_append_left}
use Rattle.dl_look.specs.declared.place.Place.{Place}
use Rattle.dl_look.specs.declared.probed.Span.{Span}
use Rattle.dl_look.specs.declared.slots.Slot.{Slot}
use Rattle.dl_look.specs.declared.cuts.Cut.{Cut}
use Rattle.dl_look.specs.declared.links.Links.{Links}
use Rattle.dl_look.specs.Answer.{is_below, is_at_most}
use Rattle.dl_look.specs.Cuts.{covers_span, first_from, ends_of_span, no_cut, no_span, cut_place, AreCuts}
use Rattle.dl_look.specs.Links.{IsLinked, is_open}
use Rattle.dl_look.specs.Slots.{no_place, slot_place, IsRising, IsSlots}
use Rattle.dl_look.proofs.LedgerLemmas.{inside, outside, below}
use Rattle.dl_look.proofs.LastUpto.{stays_above}
use Rattle.dl_look.proofs.PlaceOrder.{above-below, at_most-below, at_most-trans, not_below-at_most, same_address}
use Rattle.dl_look.proofs.PlaceOrder.{same_op_index}
use Rattle.dl_look.proofs.TrailLemmas.{split_at}

pub or-none : (o : Option ℕ) → option_or o None ≡ o
or-none None = refl
or-none (Some r) = refl

or-some : (o x : Option ℕ) → is_none o ≡ false → option_or o x ≡ o
or-some None x h = cc
or-some (Some r) x h = refl

none-true : (o : Option ℕ) → is_none o ≡ true → o ≡ None
none-true None h = refl
none-true (Some e) h = cc

-- the open slots from low on up to before at, and before high, have the sequence
pub record Covered (old now : List (Option ℕ)) (links : Links) (low high at sequence : ℕ) : Type 0 where
  pub linked : IsLinked links
  pub slots : length links.next.items ≡ length old + 1
  pub count : length now ≡ length old
  pub within : at ≤ length old
  pub ahead : low ≤ at
  pub «open» : is_open links.next.items at ≡ true
  pub opens : (j : ℕ) → j < length old → is_open links.next.items j ≡ is_none (get_or now j None)
  pub closed : (j : ℕ) → low ≤ j → j < at → is_open links.next.items j ≡ false
  pub given : (j : ℕ) → j < length old
      → get_or now j None ≡ option_or (get_or old j None) (if nat_le low j && nat_lt j (min at high) then Some sequence
      else None)

module _ (old now : List (Option ℕ)) (links mid further : Links) (low high at at' sequence : ℕ)
    (c : Covered old now links low high at sequence) (lt : at < high) (to : high ≤ length old)
    (count : length mid.next.items ≡ length links.next.items) (shut : is_open mid.next.items at ≡ false)
    (others : (j : ℕ) → j < length links.next.items → j ≢ at
    → is_open mid.next.items j ≡ is_open links.next.items j)
    (linked : IsLinked further)
    (count' : length further.next.items ≡ length mid.next.items)
    (stay : (j : ℕ) → j < length mid.next.items → is_open further.next.items j ≡ is_open mid.next.items j)
    (ahead : at + 1 ≤ at') (within : at' < length mid.next.items) (opened : is_open further.next.items at' ≡ true)
    (closed : (j : ℕ) → at + 1 ≤ j → j < at' → is_open further.next.items j ≡ false) where
  abbrev new : List (Option ℕ)
  new = set now at (Some sequence)

  abbrev picked : ℕ → ℕ → Option ℕ
  picked end j = if nat_le low j && nat_lt j (min end high) then Some sequence else None

  at_within : at < length now
  at_within = omega (arith, c.count)

  new_at : get_or new at None ≡ Some sequence
  new_at = get_or-set_same now at (Some sequence) None at_within

  new_other : (j : ℕ) → j ≢ at → get_or new j None ≡ get_or now j None
  new_other j ne = get_or-set_other now at j (Some sequence) None ne

  was_none : get_or old at None ≡ None
  was_none =
      sym (or-none (get_or old at None))
      ∙ sym (c.given at (omega (arith))
      ∙ ap (λ (b : Bool). option_or (get_or old at None) (if b then Some sequence else None))
      (outside low high at at (omega arith)))
      ∙ none-true (get_or now at None) (sym (c.opens at (omega arith)) ∙ c.open)

  new_opens : (j : ℕ) → j < length old → is_open further.next.items j ≡ is_none (get_or new j None)
  new_opens j less =
      stay j (omega (arith, c.slots))
      ∙ ⊎_elim
      (λ is. ap (is_open mid.next.items) is ∙ shut ∙ sym (ap is_none (ap (λ k. get_or new k None) is ∙ new_at)))
      (λ ne. others j (omega (arith, c.slots)) ne ∙ c.opens j less ∙ sym (ap is_none (new_other j ne)))
      (cases_eq j at)

  alike : (j : ℕ) → j ≢ at → (j < at) ⊎ (at' ≤ j) → picked at j ≡ picked at' j
  alike j ne where_it_is =
      ⊎_elim
      (λ under. ⊎_elim
      (λ before. ap (λ (b : Bool). if b then Some sequence else None) (below low high at j before
      ∙ sym (below low high at' j before)))
      (λ from. ap (λ (b : Bool). if b then Some sequence else None) (inside low high at j from under (omega arith)
      ∙ sym (inside low high at' j from (omega arith) (omega arith))))
      (cases_lt j low))
      (λ above. ap (λ (b : Bool). if b then Some sequence else None) (outside low high at j (omega arith)
      ∙ sym (outside low high at' j above)))
      where_it_is

  gives_other : (j : ℕ) → j < length old → j ≢ at
      → option_or (get_or old j None) (picked at j) ≡ option_or (get_or old j None) (picked at' j)
  gives_other j less ne =
      ⊎_elim
      (λ under. ap (option_or (get_or old j None)) (alike j ne (inl under)))
      (λ from. ⊎_elim
      (λ between. (
      let as_was =
      ap (λ (b : Bool). option_or (get_or old j None) (if b then Some sequence else None))
      (outside low high at j (omega arith)) ∙ or-none (get_or old j None) in
      let has =
      sym (ap is_none (new_other j ne ∙ c.given j less ∙ as_was)) ∙ sym (new_opens j less)
      ∙ closed j (omega arith) between in
      as_was ∙ sym (or-some (get_or old j None) (picked at' j) has)))
      (λ tail. ap (option_or (get_or old j None)) (alike j ne (inr tail)))
      (cases_lt j at'))
      (cases_lt j at)

  gives : (j : ℕ) → j < length old → get_or new j None ≡ option_or (get_or old j None) (picked at' j)
  gives j less =
      ⊎_elim
      (λ is. ap (λ k. get_or new k None) is ∙ new_at
      ∙ sym (ap₂ (λ (o : Option ℕ) (b : Bool). option_or o (if b then Some sequence else None)) was_none
      (inside low high at' at c.ahead (omega arith) lt))
      ∙ sym (ap (λ k. option_or (get_or old k None) (picked at' k)) is))
      (λ ne. new_other j ne ∙ c.given j less ∙ gives_other j less ne)
      (cases_eq j at)

  shuts : (j : ℕ) → low ≤ j → j < at' → is_open further.next.items j ≡ false
  shuts j from under =
      ⊎_elim
      (λ earlier. stay j (omega (arith, c.slots)) ∙ others j (omega (arith, c.slots)) (omega arith)
      ∙ c.closed j from earlier)
      (λ tail. ⊎_elim
      (λ is. stay j (omega (arith, c.slots)) ∙ ap (is_open mid.next.items) is ∙ shut)
      (λ ne. closed j (omega arith) under)
      (cases_eq j at))
      (cases_lt j at)

  pub covered_more : Covered old new further low high at' sequence
  covered_more =
      record {
        linked = linked;
        slots = count' ∙ count ∙ c.slots;
        count = length-set now at (Some sequence) ∙ c.count;
        within = omega (arith, c.slots);
        ahead = omega (arith, c.ahead);
        «open» = opened;
        opens = new_opens;
        closed = shuts;
        given = gives;
      }

-- one more span
pub first_from-push : (i : ℕ) (spans : List Span) (s : Span) (x : Place)
    → first_from i (spans ++ s ∷ []) x ≡ option_or (first_from i spans x) (if covers_span x s
    then Some (i + length spans) else None)
first_from-push i [] s x = let e : i ≡ i + 0 = omega arith in ap (λ n. if covers_span x s then Some n else None) e
first_from-push i (t ∷ spans) s x =
    let e : suc i + length spans ≡ i + suc (length spans) = omega arith in
    elim (covers_span x t) as (λ b. (if b then Some i else first_from (suc i) (spans ++ s ∷ []) x) ≡ option_or (if b
    then Some i else first_from (suc i) spans x) (if covers_span x s then Some (i + suc (length spans))
    else None)) [
      | true ↦ refl
      | false ↦ first_from-push (suc i) spans s x
          ∙ ap (λ n. option_or (first_from (suc i) spans x) (if covers_span x s then Some n else None)) e
    ]

-- the slots of a rising span
pub within_span : (slots : List Slot) (s : Span) (low high j : ℕ) → j < length slots
    → ((j : ℕ) → j < low → is_below (slot_place slots j) s.first ≡ true)
    → ((j : ℕ) → low ≤ j → j < length slots → is_below (slot_place slots j) s.first ≡ false)
    → ((j : ℕ) → j < high → is_below (slot_place slots j) s.last ≡ true)
    → ((j : ℕ) → high ≤ j → j < length slots → is_below (slot_place slots j) s.last ≡ false) → s.rising ≡ true
    → (nat_le low j && nat_lt j high) ≡ covers_span (slot_place slots j) s
within_span slots s low high j lt below' from under above rises =
    let x = slot_place slots j in
    let first : nat_le low j ≡ is_at_most s.first x = ⊎_elim
    (λ less. lt-leb low j less ∙ sym (above-below x s.first (below' j less)))
    (λ more. le-leb low j more ∙ sym (not_below-at_most x s.first (from j more lt)))
    (cases_lt j low) in
    ap₂ (λ (b c : Bool). b && c) first (sym (split_at slots s.last high under above j lt))
    ∙ sym (ap (λ b. b && (is_at_most s.first x && is_below x s.last)) rises)

-- one more span, rising or not
pub first_more : (spans : List Span) (i : ℕ) (x : Place) (b : Bool) (o p : Option ℕ) → i < length spans
    → b ≡ covers_span x (get_or spans i no_span) → o ≡ first_from 0 (take i spans) x
    → p ≡ option_or o (if b then Some i else None) → p ≡ first_from 0 (take (i + 1) spans) x
first_more spans i x b o p lt covers before now =
    let e : i ≡ 0 + length (take i spans) = omega (arith, length-take-le i spans (omega arith)) in
    now
    ∙ ap₂ (λ (o : Option ℕ) (n : ℕ). option_or o (if b then Some n else None)) before e
    ∙ ap (λ (b : Bool). option_or (first_from 0 (take i spans) x) (if b then Some (0 + length (take i spans))
    else None)) covers
    ∙ sym (ap (λ l. first_from 0 l x) (take_more spans i no_span lt)
    ∙ first_from-push 0 (take i spans) (get_or spans i no_span) x)

-- where the places stand at which spans begin and end
first_end : (spans : List Span) (i : ℕ) → i < length spans → (e : ℕ) × (e < length (flat_map ends_of_span spans))
    × (get_or (flat_map ends_of_span spans) e no_place ≡ (get_or spans i no_span).first)
first_end [] i lt = absurd (omega arith)
first_end (s ∷ spans) zero lt = (0, omega arith, refl)
first_end (s ∷ spans) (suc i) lt =
    let rest = first_end spans i (omega arith) in (suc (suc rest.0), (let h = rest.1 in omega arith), rest.2)

last_end : (spans : List Span) (i : ℕ) → i < length spans → (e : ℕ) × (e < length (flat_map ends_of_span spans))
    × (get_or (flat_map ends_of_span spans) e no_place ≡ (get_or spans i no_span).last)
last_end [] i lt = absurd (omega arith)
last_end (s ∷ spans) zero lt = (1, omega arith, refl)
last_end (s ∷ spans) (suc i) lt =
    let rest = last_end spans i (omega arith) in (suc (suc rest.0), (let h = rest.1 in omega arith), rest.2)

-- the slots so far have cuts
pub record SoFar (spans : List Span) (slots : List Slot) (cuts : List Cut) (count : ℕ) : Type 0 where
  pub few : length cuts ≤ count
  pub rise : (k m : ℕ) → k < m → m < length cuts → is_below (cut_place cuts k) (cut_place cuts m) ≡ true
  pub right : (k : ℕ) → k < length cuts → (get_or cuts k no_cut).sequence ≡ first_from 0 spans (cut_place cuts k)
  pub each : (j : ℕ) → j < count → (k : ℕ) × (k < length cuts) × (cut_place cuts k ≡ slot_place slots j)
  pub upto : (k : ℕ) → k < length cuts → (j : ℕ) × (j < count) × (cut_place cuts k ≡ slot_place slots j)

module _ (spans : List Span) (slots : List Slot) (cuts : List Cut) (i : ℕ) (so_far : SoFar spans slots cuts i)
    (rises : IsRising slots) (lt : i < length slots) where
  -- the place of the next slot is a new one
  module _ (new : List Cut) (cut : Cut) (is : new ≡ cuts ++ cut ∷ []) (place : cut.place ≡ slot_place slots i)
      (right : cut.sequence ≡ first_from 0 spans (slot_place slots i)) (above : (i ≡ 0) ⊎ ((0 < i)
      × (is_below (slot_place slots (i - 1)) (slot_place slots i) ≡ true))) where
    longer : length new ≡ length cuts + 1
    longer = ap length is ∙ length_push cuts cut

    new_last : get_or new (length cuts) no_cut ≡ cut
    new_last = ap (λ l. get_or l (length cuts) no_cut) is ∙ get_or_push cuts cut no_cut (length cuts) refl

    kept_cut : (k : ℕ) → k < length cuts → get_or new k no_cut ≡ get_or cuts k no_cut
    kept_cut k less = ap (λ l. get_or l k no_cut) is ∙ get_or_append_left cuts (cut ∷ []) no_cut k less

    last_place : cut_place new (length cuts) ≡ slot_place slots i
    last_place = ap (λ (c : Cut). c.place) new_last ∙ place

    other_place : (k : ℕ) → k < length cuts → cut_place new k ≡ cut_place cuts k
    other_place k less = ap (λ (c : Cut). c.place) (kept_cut k less)

    under : (k : ℕ) → k < length cuts → is_below (cut_place cuts k) (slot_place slots i) ≡ true
    under k less =
        let j = so_far.upto k less in
        let h = j.1 in
        ⊎_elim
        (λ none. absurd (omega arith))
        (λ (some, below'). ap (λ p. is_below p (slot_place slots i)) j.2
        ∙ at_most-below (slot_place slots j.0) (slot_place slots (i - 1)) (slot_place slots i)
        (rises j.0 (i - 1) (omega arith) (omega arith)) below')
        above

    pub new_cut : SoFar spans slots new (i + 1)
    new_cut =
        record {
          few = omega (arith, longer, so_far.few);
          rise = λ k m lt' less. ⊎_elim
              (λ here. ap₂ is_below (other_place k (omega arith)) (ap (cut_place new) here ∙ last_place)
              ∙ under k (omega arith))
              (λ ne. (let before : m < length cuts = omega (arith, longer) in
              ap₂ is_below (other_place k (omega arith)) (other_place m before) ∙ so_far.rise k m lt' before))
              (cases_eq m (length cuts));
          right = λ k less. ⊎_elim
              (λ here. ap (λ n. (get_or new n no_cut).sequence) here ∙ ap (λ (c : Cut). c.sequence) new_last ∙ right
              ∙ sym (ap (first_from 0 spans) (ap (cut_place new) here ∙ last_place)))
              (λ ne. (let before : k < length cuts = omega (arith, longer) in
              ap (λ (c : Cut). c.sequence) (kept_cut k before) ∙ so_far.right k before
              ∙ sym (ap (first_from 0 spans) (other_place k before))))
              (cases_eq k (length cuts));
          each = λ j less. ⊎_elim
              (λ here. (length cuts, omega (arith, longer), last_place ∙ sym (ap (slot_place slots) here)))
              (λ ne. (let k = so_far.each j (omega arith) in
              (k.0, (let h = k.1 in omega (arith, longer)), other_place k.0 k.1 ∙ k.2)))
              (cases_eq j i);
          upto = λ k less. ⊎_elim
              (λ here. (i, omega arith, ap (cut_place new) here ∙ last_place))
              (λ ne. (let before : k < length cuts = omega (arith, longer) in let j = so_far.upto k before in (
                j.0,
                (let h = j.1 in omega arith),
                other_place k before ∙ j.2,
              )))
              (cases_eq k (length cuts));
        }

  -- or that of the slot before it
  pub same_cut : 0 < i → is_below (slot_place slots (i - 1)) (slot_place slots i) ≡ false
      → SoFar spans slots cuts (i + 1)
  same_cut some not =
      let p = slot_place slots (i - 1) in
      let q = slot_place slots i in
      let up = rises (i - 1) i (omega arith) lt in
      let same : p ≡ q =
      ap₂ (λ (a o : ℕ). record {
        address = a;
        op_index =
            o;
      }) (same_address p q up not) (same_op_index p q up not) in
      record {
        few = omega (arith, so_far.few);
        rise = so_far.rise;
        right = so_far.right;
        each = λ j less. ⊎_elim
            (λ here. (let k = so_far.each (i - 1) (omega arith) in
            (k.0, k.1, k.2 ∙ same ∙ sym (ap (slot_place slots) here))))
            (λ ne. so_far.each j (omega arith))
            (cases_eq j i);
        upto = λ k less. (let j = so_far.upto k less in (j.0, (let h = j.1 in omega arith), j.2));
      }

pub two_ends : (spans : List Span) → length (flat_map ends_of_span spans) ≡ 2 * length spans
two_ends [] = refl
two_ends (s ∷ spans) = omega (arith, two_ends spans)

-- of the first i
pub ends_upto : (spans : List Span) (i : ℕ) → i ≤ length spans → length (flat_map ends_of_span (take i spans)) ≡ 2 * i
ends_upto spans i within = two_ends (take i spans) ∙ ap (λ n. 2 * n) (length-take-le i spans within)

pub are_cuts : (spans : List Span) (places : List Place) (slots : List Slot) (cuts : List Cut) (i : ℕ)
    → places ≡ flat_map ends_of_span spans → IsSlots places slots → SoFar spans slots cuts i → i ≡ length slots
    → AreCuts spans cuts
are_cuts spans places slots cuts i ends given so_far all =
    let cut_at =
    λ (e : ℕ) (p : Place) (lt : e < length (flat_map ends_of_span spans))
    (is : get_or (flat_map ends_of_span spans) e no_place ≡ p). (
    let less : e < length places = omega (arith, ap length ends) in
    let j = given.each e less in
    let h = j.1 in
    let k = so_far.each j.0 (omega arith) in
    let whole : (k : ℕ) × (k < length cuts) × (cut_place cuts k ≡ p) = (
      k.0,
      k.1,
      k.2 ∙ given.place j.0 j.1 ∙ ap (λ n. get_or places n no_place) j.2
          ∙ ap (λ l. get_or l e no_place) ends ∙ is,
    ) in
    whole) in
    record {
      few = omega (arith, so_far.few, given.count, ap length ends, two_ends spans);
      rise = so_far.rise;
      right = so_far.right;
      begins = λ n lt. (let e = first_end spans n lt in cut_at e.0 (get_or spans n no_span).first e.1 e.2);
      ends = λ n lt. (let e = last_end spans n lt in cut_at e.0 (get_or spans n no_span).last e.1 e.2);
    }

-- a search between low and high, at a cut that isn't above the place and at one that is
module _ (cuts : List Cut) (place : Place) (middle : ℕ)
    (rises : (k m : ℕ) → k < m → m < length cuts → is_at_most (cut_place cuts k) (cut_place cuts m) ≡ true)
    (lt : middle < length cuts) where
  pub search_up : is_at_most (cut_place cuts middle) place ≡ true → (k : ℕ) → k < middle + 1
      → is_at_most (cut_place cuts k) place ≡ true
  search_up upto k less =
      ⊎_elim
      (λ here. ap (λ n. is_at_most (cut_place cuts n) place) here ∙ upto)
      (λ ne. at_most-trans (cut_place cuts k) (cut_place cuts middle) place (rises k middle (omega arith) lt) upto)
      (cases_eq k middle)

  pub search_down : is_at_most (cut_place cuts middle) place ≡ false → (k : ℕ) → middle ≤ k → k < length cuts
      → is_at_most (cut_place cuts k) place ≡ false
  search_down above k le less =
      ⊎_elim
      (λ here. ap (λ n. is_at_most (cut_place cuts n) place) here ∙ above)
      (λ ne. stays_above (cut_place cuts middle) (cut_place cuts k) place (rises middle k (omega arith) less) above)
      (cases_eq k middle)
