-- What is judged good: the value, the field or the form that it is.
use Rattle.std.proofs.Common.{◌≡◌, ℕ, ◌^◌, ◌≤◌, Bool, true, false, if◌then◌else◌, List, [], ◌∷◌, length, Option, Some}
use Rattle.std.proofs.Common.{None, Ok, Err, refl, sym, ap, arith, inl, inr}
use Rattle.std.proofs.lemmas.Bool.{cases_lt, cases_Bool, lt-ltb, le-ltb}
use Rattle.dl_num.specs.Leb.{groups}
use Rattle.dl_num.specs.LebFront.{is_leb}
use Rattle.dl_table.specs.declared.fault.FaultKind.{FaultKind}
use Rattle.dl_table.specs.declared.form.Form.{Form}
use Rattle.dl_table.specs.Value.{form_of_code, Value, Judgement, good, bad}
use Rattle.dl_field.specs.Layout.{Item, form_is, value_is, value_judged, form_judged}
use Rattle.dl_field.proofs.FieldLemmas.{none_some}

pub good_value : (u v : Value) → ◌≡◌ {A = Judgement Value} (good u) (good v) → v ≡ u
good_value u v e = ap (λ (o : Judgement Value). elim o [ Some (Ok k) ↦ k | Some (Err f) ↦ u | None ↦ u ]) (sym e)

-- a value that is judged where a test holds
pub good_if : (b : Bool) (u v : Value) → (if b then good u else None) ≡ good v → (b ≡ true) × (v ≡ u)
good_if true u v e = (refl, good_value u v e)
good_if false u v e = absurd (none_some {a = Ok v} refl e)

pub leb_some : (w : List ℕ) → is_leb w ≡ true → 1 ≤ length w
leb_some [] e = absurd cc
leb_some (x ∷ w) e = omega arith

pub bad_good : {kind : FaultKind} {v : Value} → ◌≡◌ {A = Judgement Value} (bad kind) (good v) → ⊥
bad_good e = absurd cc

pub good_item : (i j : Item) → ◌≡◌ {A = Judgement Item} (good i) (good j) → j ≡ i
good_item i j e = ap (λ (o : Judgement Item). elim o [ Some (Ok k) ↦ k | Some (Err f) ↦ i | None ↦ i ]) (sym e)

pub bad_item : {kind : FaultKind} {i : Item} → ◌≡◌ {A = Judgement Item} (bad kind) (good i) → ⊥
bad_item e = absurd cc

pub value_item : (o : Judgement Value) (i : Item) → value_judged o ≡ good i
    → (v : Value) × (o ≡ good v) × (i ≡ value_is v)
value_item None i e = absurd (none_some {a = Ok i} refl e)
value_item (Some (Ok v)) i e = (v, refl, good_item (value_is v) i e)
value_item (Some (Err kind)) i e = absurd (bad_item e)

form_item : (code : ℕ) (o : Option Form) (i : Item) → form_judged code o ≡ good i → (f : Form) × (i ≡ form_is f)
form_item code (Some f) i e = (f, good_item (form_is f) i e)
form_item code None i e = elim (cases_lt code (2 ^ 64)) [
  | inl lt ↦ absurd (bad_item (rw (lt-ltb _ _ lt) at e))
  | inr le ↦ absurd (bad_item (rw (le-ltb _ _ le) at e))
]

-- a good form code, which isn't empty
pub is_form : (w : List ℕ) (i : Item) → (if is_leb w then form_judged (groups w) (form_of_code (groups w)) else None)
    ≡ good i → (f : Form) × (i ≡ form_is f) × (1 ≤ length w)
is_form w i e = elim (cases_Bool (is_leb w)) [
  | inl t ↦ let f = form_item (groups w) (form_of_code (groups w)) i (rw t at e) in (f.0, f.1, leb_some w t)
  | inr n ↦ absurd (none_some {a = Ok i} refl (rw n at e))
]
