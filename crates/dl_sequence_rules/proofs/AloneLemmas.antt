-- Stretches in the order of their first places, and which of them share no place with another one.
use Rattle.std.proofs.Common.{◌⊎◌, inl, inr, filter, [], ◌∷◌, ◌≡◌, ◌≢◌, ◌∙◌, ℕ, zero, suc, ◌+◌, ◌-◌, ◌<◌, ◌≤◌, Bool, true, false, List, length, get_or, set, replicate}
use Rattle.std.proofs.Common.{refl, sym, ap, subst, ⊎_elim, arith, get_or-set_other}
use Rattle.std.proofs.lemmas.Bool.{and_left, and_parts, and_right, both_ways, cases_Bool, cases_eq, cases_lt}
use Rattle.std.proofs.lemmas.List.{get_or-replicate, get_or_past, length-replicate}
use Rattle.dl_look.specs.declared.place.Place.{Place}
use Rattle.dl_look.specs.Answer.{is_at_most, is_below}
use Rattle.dl_sequence_rules.specs.declared.crowding.Stretch.{Stretch}
use Rattle.dl_sequence_rules.specs.declared.ended.Ended.{Ended}
use Rattle.dl_sequence_rules.specs.Alone.{AreAlone, AreMarks, AreStretches, DoBeginInOrder, IsApart, IsStretch, covers_stretch, ended_at, stretch_at, stretch_of}
use Rattle.dl_sequence_rules.specs.Covering.{covers_place}
use Rattle.dl_sequence_rules.proofs.PlaceLemmas.{at_most-not_below, at_most_after, at_most_itself, below-not_at_most, below_after}

-- ---- a stretch for each sequence, in another order

rise_far : (stretches : List Stretch)
    → ((k : ℕ) → k + 1 < length stretches → is_at_most (stretch_at stretches k).first (stretch_at stretches (k + 1)).first ≡ true)
    → (i d : ℕ) → i + d < length stretches → is_at_most (stretch_at stretches i).first (stretch_at stretches (i + d)).first ≡ true
rise_far stretches step i zero lt =
    let e : i ≡ i + 0 = omega arith in
    subst (λ j. is_at_most (stretch_at stretches i).first (stretch_at stretches j).first ≡ true) e
    (at_most_itself (stretch_at stretches i).first)
rise_far stretches step i (suc d) lt =
    let e : i + d + 1 ≡ i + suc d = omega arith in
    subst (λ j. is_at_most (stretch_at stretches i).first (stretch_at stretches j).first ≡ true) e
    (at_most_after (stretch_at stretches i).first (stretch_at stretches (i + d)).first (stretch_at stretches (i + d + 1)).first
    (rise_far stretches step i d (omega arith)) (step (i + d) (omega arith)))

begin_in_order : (stretches : List Stretch)
    → ((k : ℕ) → k + 1 < length stretches → is_at_most (stretch_at stretches k).first (stretch_at stretches (k + 1)).first ≡ true)
    → DoBeginInOrder stretches
begin_in_order stretches step i j le lt =
    let e : i + (j - i) ≡ j = omega arith in
    subst (λ k. is_at_most (stretch_at stretches i).first (stretch_at stretches k).first ≡ true) e
    (rise_far stretches step i (j - i) (omega arith))

-- a stretch is one of these
abbrev Has : List Stretch → Stretch → Type 0
Has [] t = ⊥
Has (u ∷ ts) t = (u ≡ t) ⊎ Has ts t

has_at : (ts : List Stretch) (k : ℕ) → k < length ts → Has ts (stretch_at ts k)
has_at [] k lt = absurd (omega (arith, lt))
has_at (t ∷ ts) zero lt = inl refl
has_at (t ∷ ts) (suc k) lt = inr (has_at ts k (omega (arith, lt)))

at_has : (ts : List Stretch) (t : Stretch) → Has ts t → (k : ℕ) × (k < length ts) × (stretch_at ts k ≡ t)
at_has [] t has = absurd has
at_has (u ∷ ts) t (inl is) = (0, omega arith, is)
at_has (u ∷ ts) t (inr has) = (let rest = at_has ts t has in (suc rest.0, omega (arith, rest.1), rest.2))

has_kept : (test : Stretch → Bool) (ts : List Stretch) (t : Stretch) → test t ≡ true → Has ts t → Has (filter test ts) t
has_kept test [] t good has = has
has_kept test (u ∷ ts) t good (inl is) = rw (is, good) (inl refl)
has_kept test (u ∷ ts) t good (inr has) = elim (cases_Bool (test u)) [
  | inl kept ↦ rw kept (inr (has_kept test ts t good has))
  | inr left ↦ rw left (has_kept test ts t good has)
]

kept_has : (test : Stretch → Bool) (ts : List Stretch) (t : Stretch) → Has (filter test ts) t → Has ts t
kept_has test [] t has = has
kept_has test (u ∷ ts) t has = elim (cases_Bool (test u)) [
  | inl kept ↦ ⊎_elim (λ (is : u ≡ t). inl is) (λ (more : Has (filter test ts) t). inr (kept_has test ts t more)) (rw kept at has)
  | inr left ↦ inr (kept_has test ts t (rw left at has))
]

module _ (sequences : List Ended) (made sorted : List Stretch) (count : length made ≡ length sequences)
    (each : (i : ℕ) → i < length made → stretch_at made i ≡ stretch_of i (ended_at sequences i))
    (tests : Stretch → Stretch → Bool) (itself : (t : Stretch) → tests t t ≡ true)
    (same : (t : Stretch) → filter (tests t) sorted ≡ filter (tests t) made) where
  own_made : (t : Stretch) → Has made t → IsStretch sequences t
  own_made t has =
      let at = at_has made t has in
      let is = sym at.2 ∙ each at.0 at.1 in
      let own : IsStretch sequences (stretch_of at.0 (ended_at sequences at.0)) = record { within = omega (arith, at.1, count); is = refl } in
      subst (IsStretch sequences) (sym is) own

  pub are_stretches : ((k : ℕ) → k + 1 < length sorted
      → is_at_most (stretch_at sorted k).first (stretch_at sorted (k + 1)).first ≡ true)
      → AreStretches sequences sorted
  are_stretches step = record {
    rise = begin_in_order sorted step;
    own = λ k lt. (
        let t = stretch_at sorted k in
        own_made t (kept_has (tests t) made t (subst (λ (l : List Stretch). Has l t) (same t) (has_kept (tests t) sorted t (itself t) (has_at sorted k lt)))));
    each = λ i lt. (
        let less : i < length made = omega (arith, lt, count) in
        let t = stretch_at made i in
        let found =
        at_has sorted t (kept_has (tests t) sorted t (subst (λ (l : List Stretch). Has l t) (sym (same t))
        (has_kept (tests t) made t (itself t) (has_at made i less)))) in (
          found.0,
          found.1,
          ap (λ (u : Stretch). u.number) (found.2 ∙ each i less),
        ));
  }

-- ---- marks

-- those before it end where it begins or below, and those after it begin where it ends or above
pub apart : (stretches : List Stretch) (k : ℕ) (reached : Place)
    → ((m : ℕ) → m < k → is_at_most (stretch_at stretches m).last reached ≡ true)
    → is_at_most reached (stretch_at stretches k).first ≡ true
    → ((m : ℕ) → k + 1 ≤ m → m < length stretches → is_at_most (stretch_at stretches k).last (stretch_at stretches m).first ≡ true)
    → IsApart stretches k
apart stretches k reached before begins after m lt ne x covers =
    let t = stretch_at stretches k in
    let u = stretch_at stretches m in
    let parts = and_parts (is_at_most t.first x) (is_below x t.last) covers in
    ⊎_elim
    (λ (less : m < k). and_right (is_at_most u.first x) (is_below x u.last)
    (at_most-not_below u.last x
    (at_most_after u.last reached x (before m less) (at_most_after reached t.first x begins parts.0))))
    (λ (from : k ≤ m). and_left (is_at_most u.first x) (is_below x u.last)
    (below-not_at_most x u.first (below_after x t.last u.first parts.1 (after m (omega arith) lt))))
    (cases_lt m k)

pub marked_more : (stretches : List Stretch) (marks : List Bool) → AreMarks stretches marks → (k : ℕ) → k < length stretches
    → IsApart stretches k → AreMarks stretches (set marks (stretch_at stretches k).number true)
marked_more stretches marks are k lt is i marked =
    let n = (stretch_at stretches k).number in
    ⊎_elim
    (λ (here : n ≡ i). (k, lt, here, is))
    (λ (ne : n ≢ i). are i (sym (get_or-set_other marks n i true false (λ e. ne (sym e))) ∙ marked))
    (cases_eq n i)

pub none_marked : (stretches : List Stretch) (n : ℕ) → AreMarks stretches (replicate n false)
none_marked stretches n i marked =
    absurd (both_ways (get_or (replicate n false) i false)
    (⊎_elim
    (λ (less : i < n). get_or-replicate n i false false less)
    (λ (from : n ≤ i). get_or_past (replicate n false) i false (let l = length-replicate n false in omega arith))
    (cases_lt i n))
    marked)

-- ---- sequences

module _ (sequences : List Ended) (stretches : List Stretch) (are : AreStretches sequences stretches) where
  covers_same : (x : Place) (k i : ℕ) → k < length stretches → (stretch_at stretches k).number ≡ i
      → covers_stretch x (stretch_at stretches k) ≡ covers_place x (ended_at sequences i)
  covers_same x k i lt is =
      ap (covers_stretch x) (are.own k lt).is ∙ ap (λ n. covers_place x (ended_at sequences n)) is

  pub are_alone : (marks : List Bool) → length marks ≡ length sequences → AreMarks stretches marks → AreAlone sequences marks
  are_alone marks count marked = record {
    count = count;
    alone = λ i is j lt ne x covers. (
        let k = marked i is in
        let m = are.each j lt in
        let other : m.0 ≢ k.0 = λ e. ne (sym m.2 ∙ ap (λ n. (stretch_at stretches n).number) e ∙ k.2) in
        sym (covers_same x m.0 j m.1 m.2)
        ∙ k.3 m.0 m.1 other x (covers_same x k.0 i k.1 k.2 ∙ covers));
  }
