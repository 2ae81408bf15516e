-- The cuts of spans, by tests.
use Rattle.std.proofs.Common.{◌≡◌, ℕ, zero, suc, ◌<◌, true, false, List, [], ◌∷◌, length, arith, refl, ap, ap₂, eqb}
use Rattle.std.proofs.Common.{get_or, subst}
use Rattle.std.specs.Prelude.{if◌then◌else◌}
use Rattle.std.proofs.lemmas.Bool.{and_parts, and_from, eqb-true, eq-eqb}
use Rattle.dl_look.specs.declared.place.Place.{Place}
use Rattle.dl_look.specs.declared.probed.Span.{Span}
use Rattle.dl_look.specs.declared.cuts.Cut.{Cut}
use Rattle.dl_look.specs.Cuts.{AreCuts, cut_place, no_span}
use Rattle.dl_stretch.specs.CutPlaces.{is_place, has_place, CutsStand}

abbrev place : ℕ → ℕ → Place
place address op_index = record { address = address; op_index = op_index }

same_place : (p q : Place) → is_place p q ≡ true → p ≡ q
same_place p q h =
    let e = and_parts (eqb p.address q.address) (eqb p.op_index q.op_index) h in
    ap₂ (λ (a o : ℕ). place a o) (eqb-true p.address q.address e.0) (eqb-true p.op_index q.op_index e.1)

place_itself : (p : Place) → is_place p p ≡ true
place_itself p =
    and_from (eqb p.address p.address) (eqb p.op_index p.op_index) (eq-eqb p.address p.address refl)
    (eq-eqb p.op_index p.op_index refl)

abbrev At : Place → List Cut → Type 0
At p cuts = (k : ℕ) × (k < length cuts) × (cut_place cuts k ≡ p)

found : (p : Place) (cuts : List Cut) → has_place p cuts ≡ true → At p cuts
found p [] h = cc
found p (c ∷ cuts) h =
    elim (is_place c.place p) as (λ b. is_place c.place p ≡ b → (if b then true else has_place p cuts) ≡ true
    → At p (c ∷ cuts)) [
      | true ↦ λ e g. (0, omega arith, same_place c.place p e)
      | false ↦ λ e g. (let w = found p cuts g in (suc w.0, (let lt = w.1 in omega (arith, lt)), w.2))
    ] refl h

has : (cuts : List Cut) (k : ℕ) → k < length cuts → has_place (cut_place cuts k) cuts ≡ true
has [] k lt = absurd (omega arith)
has (c ∷ cuts) zero lt = ap (λ b. if b then true else has_place c.place cuts) (place_itself c.place)
has (c ∷ cuts) (suc k) lt =
    elim (is_place c.place (cut_place cuts k)) as (λ b. (if b then true else has_place (cut_place cuts k) cuts) ≡ true) [
      | true ↦ refl
      | false ↦ has cuts k (omega arith)
    ]

has_at : (p : Place) (cuts : List Cut) → At p cuts → has_place p cuts ≡ true
has_at p cuts (k, lt, e) = subst (λ q. has_place q cuts ≡ true) e (has cuts k lt)

pub cuts_stand : (spans : List Span) (cuts : List Cut) → AreCuts spans cuts → CutsStand spans cuts
cuts_stand spans cuts are = record {
  few = are.few;
  rise = are.rise;
  right = are.right;
  begins = λ i lt. has_at (get_or spans i no_span).first cuts (are.begins i lt);
  ends = λ i lt. has_at (get_or spans i no_span).last cuts (are.ends i lt);
}

pub are_cuts : (spans : List Span) (cuts : List Cut) → CutsStand spans cuts → AreCuts spans cuts
are_cuts spans cuts stand = record {
  few = stand.few;
  rise = stand.rise;
  right = stand.right;
  begins = λ i lt. found (get_or spans i no_span).first cuts (stand.begins i lt);
  ends = λ i lt. found (get_or spans i no_span).last cuts (stand.ends i lt);
}
