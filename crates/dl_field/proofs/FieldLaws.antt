-- The judgement of bytes as a field agrees with the standard's words: what is good is spelled, and what is spelled is
-- good.
use Rattle.std.proofs.Common.{◌≡◌, ◌≢◌, ℕ, ◌^◌, ◌≤◌, ◌==◌}
use Rattle.std.proofs.Common.{List, [], ◌∷◌, length, take, drop, Option, Some, None, Ok, refl, sym, ◌⊎◌}
use Rattle.std.proofs.Common.{ap, subst, ◌∙◌, arith, inl, inr, length-append}
use Rattle.std.proofs.lemmas.Bool.{cases_lt, cases_eq, cases_Bool, lt-ltb, le-ltb, le-leb, lt-leb, eqb-true, eq-eqb}
use Rattle.std.proofs.lemmas.Bool.{ne_eqb}
use Rattle.std.proofs.lemmas.List.{take-append-drop, length-take-le, length-drop, take_at}
use Rattle.std.proofs.Math.Seq.{drop-append_seam}
use Rattle.dl_num.specs.declared.fixed.Order.{Order}
use Rattle.dl_num.specs.Fixed.{fixed}
use Rattle.dl_num.specs.Leb.{groups, IsUleb}
use Rattle.dl_num.specs.LebFront.{is_leb}
use Rattle.dl_table.specs.declared.fault.FaultKind.{FaultKind}
use Rattle.dl_table.specs.declared.form.Format.{Format}
use Rattle.dl_table.specs.declared.form.Format.TheVariants.{Dwarf32, Dwarf64}
use Rattle.dl_table.specs.declared.form.Form.{Form}
use Rattle.dl_table.specs.declared.form.Form.TheVariants as form
use Rattle.dl_table.specs.Value.{Value, text, form_code, all_forms}
use Rattle.dl_table.specs.Value.{form_among, form_of_code, Judgement, good, text_spelt}
use Rattle.dl_table.specs.Value.{value_spelt}
use Rattle.dl_field.specs.Layout.{NumberField, Layout, initial_length_then, number_then, form_then, value_then}
use Rattle.dl_field.specs.Layout.{foreign_version, last_entry, Item, length_is, number_is, form_is, unit_length_limit}
use Rattle.dl_field.specs.Layout.{path_or_end, value_is, end_is, path_judged}
use Rattle.dl_field.specs.Layout.{short_length, long_length, initial_length_spelt, objection, judged, number_size}
use Rattle.dl_field.specs.Layout.{sized_spelt, number_judged, form_judged, value_judged, field_spelt}
use Rattle.dl_field.specs.Field.{IsText, IsInitialLength, IsNumber}
use Rattle.dl_field.specs.Field.{IsField}
use Rattle.dl_field.specs.Laws.{FieldIsJudged}
use Rattle.dl_field.proofs.FieldLemmas.{none_some, length_cases}
use Rattle.dl_field.proofs.GoodLemmas.{good_item, bad_item, value_item}
use Rattle.dl_field.proofs.ValueLaws.{text_is, text_good, uleb_is, uleb_test, value_is_spelt, value_is_good}

-- ---- the other fields

judged_number : (field : NumberField) (n : ℕ) (o : Option FaultKind) (i : Item) → objection field n ≡ o
    → judged o n ≡ good i → (i ≡ number_is n) × (objection field n ≡ None)
judged_number field n None i f e = (good_item (number_is n) i e, f)
judged_number field n (Some kind) i f e = absurd (bad_item e)

pub form_has_code : (fs : List Form) (code : ℕ) (f : Form) → form_among fs code ≡ Some f → form_code f ≡ code
form_has_code [] code f e = absurd (none_some {a = f} refl e)
form_has_code (g ∷ fs) code f e = elim (cases_eq (form_code g) code) [
  | inl same ↦
      let k : ◌≡◌ {A = Option Form} (Some g) (Some f) = rw (eq-eqb _ _ same) at e in
      ap form_code (sym (ap (λ (o : Option Form). elim o [ Some h ↦ h | None ↦ g ]) k)) ∙ same
  | inr other ↦ form_has_code fs code f (rw (ne_eqb _ _ other) at e)
]

code_has_form : (f : Form) → form_of_code (form_code f) ≡ Some f
code_has_form form.Block2 = refl
code_has_form form.Block4 = refl
code_has_form form.Data2 = refl
code_has_form form.Data4 = refl
code_has_form form.Data8 = refl
code_has_form form.String = refl
code_has_form form.Block = refl
code_has_form form.Block1 = refl
code_has_form form.Data1 = refl
code_has_form form.Strp = refl
code_has_form form.Udata = refl
code_has_form form.StrpSup = refl
code_has_form form.Data16 = refl
code_has_form form.LineStrp = refl

form_is_spelt : (code : ℕ) (o : Option Form) (i : Item) → form_of_code code ≡ o → form_judged code o ≡ good i
    → (f : Form) × (i ≡ form_is f) × (code ≡ form_code f)
form_is_spelt code (Some f) i h e = (f, good_item (form_is f) i e, sym (form_has_code all_forms code f h))
form_is_spelt code None i h e = elim (cases_lt code (2 ^ 64)) [
  | inl lt ↦ absurd (bad_item (rw (lt-ltb _ _ lt) at e))
  | inr le ↦ absurd (bad_item (rw (le-ltb _ _ le) at e))
]

number_is_spelt : (order : Order) (field : NumberField) (next : ℕ → Layout) (size : Option ℕ) (w : List ℕ) (i : Item)
    → number_judged field (sized_spelt order size w) ≡ good i
    → (n : ℕ) × (i ≡ number_is n) × IsNumber order size n w × (objection field n ≡ None)
number_is_spelt order field next (Some k) w i e = elim (cases_eq (length w) k) [
  | inl same ↦
      let n = judged_number field (fixed order w) (objection field (fixed order w)) i refl
      (rw (eq-eqb _ _ same) at e) in
      (fixed order w, n.0, (same, refl), n.1)
  | inr other ↦ absurd (none_some {a = Ok i} refl (rw (ne_eqb _ _ other) at e))
]
number_is_spelt order field next None w i e = elim (cases_Bool (is_leb w)) [
  | inl t ↦
      let n = judged_number field (groups w) (objection field (groups w)) i refl (rw t at e) in
      (groups w, n.0, uleb_is w t, n.1)
  | inr f ↦ absurd (none_some {a = Ok i} refl (rw f at e))
]

number_is_good : (order : Order) (field : NumberField) (size : Option ℕ) (w : List ℕ) (i : Item)
    → (n : ℕ) × (i ≡ number_is n) × IsNumber order size n w × (objection field n ≡ None)
    → number_judged field (sized_spelt order size w) ≡ good i
number_is_good order field (Some k) w i is =
    let spelt : sized_spelt order (Some k) w ≡ Some is.0 =
    rw (eq-eqb _ _ is.2.0) (ap (λ (n : ℕ). let o : Option ℕ = Some n in o) (sym is.2.1)) in
    ap (λ (o : Option ℕ). number_judged field o) spelt ∙ ap (λ (o : Option FaultKind). judged o is.0) is.3
    ∙ ap (λ (j : Item). let o : Judgement Item = good j in o) (sym is.1)
number_is_good order field None w i is =
    let t = uleb_test w is.0 is.2 in
    let spelt : sized_spelt order None w ≡ Some is.0 =
    rw t.0 (ap (λ (n : ℕ). let o : Option ℕ = Some n in o) (sym t.1)) in
    ap (λ (o : Option ℕ). number_judged field o) spelt ∙ ap (λ (o : Option FaultKind). judged o is.0) is.3
    ∙ ap (λ (j : Item). let o : Judgement Item = good j in o) (sym is.1)

short_is : (order : Order) (w : List ℕ) (i : Item) → length w ≡ 4 → short_length (fixed order w) ≡ good i
    → (format : Format) × (n : ℕ) × (i ≡ length_is format n) × IsInitialLength order format n w
short_is order w i four e = elim (cases_lt (fixed order w) 0xfffffff0) [
  | inl lt ↦ (
    Dwarf32,
    fixed order w,
    good_item (length_is Dwarf32 (fixed order w)) i
        (rw (lt-ltb _ _ lt, le-leb (fixed order w) unit_length_limit (omega (arith, lt))) at e),
    ((four, refl), lt),
  )
  | inr le ↦ elim (cases_eq (fixed order w) 0xffffffff) [
    | inl same ↦ absurd (none_some {a = Ok i} refl (rw (le-ltb _ _ le, eq-eqb _ _ same) at e))
    | inr other ↦ absurd (bad_item (rw (le-ltb _ _ le, ne_eqb _ _ other) at e))
  ]
]

long_is : (order : Order) (w : List ℕ) (i : Item) → length w ≡ 12 → fixed order (take 4 w) ≡ 0xffffffff
    → long_length (fixed order (drop 4 w)) ≡ good i
    → (format : Format) × (n : ℕ) × (i ≡ length_is format n) × IsInitialLength order format n w
long_is order w i twelve escape e = elim (cases_lt unit_length_limit (fixed order (drop 4 w))) [
  | inl big ↦ absurd (bad_item (rw (lt-leb _ _ big) at e))
  | inr le ↦ (
    Dwarf64,
    fixed order (drop 4 w),
    good_item (length_is Dwarf64 (fixed order (drop 4 w))) i (rw (le-leb _ _ le) at e),
    (
      take 4 w,
      drop 4 w,
      sym (take-append-drop 4 w),
      (length-take-le 4 w (omega (arith, twelve)), sym escape),
      (omega (arith, length-drop 4 w, twelve), refl),
      le,
    ),
  )
]

length_is_spelt : (order : Order) (w : List ℕ) (i : Item) → initial_length_spelt order w ≡ good i
    → (format : Format) × (n : ℕ) × (i ≡ length_is format n) × IsInitialLength order format n w
length_is_spelt order w i e = elim (length_cases order w (Ok i) e) [
  | inl four ↦ short_is order w i four (rw (eq-eqb _ _ four) at e)
  | inr long ↦ long_is order w i long.0 long.1
      (let a : length w ≢ 4 = λ same. omega (arith, long.0) in
      rw (ne_eqb _ _ a, eq-eqb _ _ long.0, eq-eqb _ _ long.1) at e)
]

length_is_good : (order : Order) (w : List ℕ) (format : Format) (n : ℕ) → IsInitialLength order format n w
    → initial_length_spelt order w ≡ good (length_is format n)
length_is_good order w Dwarf32 n is =
    let short : initial_length_spelt order w ≡ short_length (fixed order w) = rw (eq-eqb _ _ is.0.0) refl in
    let made : short_length n ≡ good (length_is Dwarf32 n) =
    rw (lt-ltb n 0xfffffff0 is.1, le-leb n unit_length_limit (omega (arith, is.1))) refl in
    short ∙ ap short_length (sym is.0.1) ∙ made
length_is_good order w Dwarf64 n is =
    let front : take 4 w ≡ is.0 = ap (λ (l : List ℕ). take 4 l) is.2 ∙ take_at is.0 is.1 4 is.3.0 in
    let tail : drop 4 w ≡ is.1 = ap (λ (k : ℕ). drop k w) (sym is.3.0)
    ∙ ap (λ (l : List ℕ). drop (length is.0) l) is.2 ∙ drop-append_seam is.0 is.1 in
    let twelve : length w ≡ 12 = omega (arith, ap length is.2, length-append is.0 is.1, is.3.0, is.4.0) in
    let escape : fixed order (take 4 w) ≡ 0xffffffff = ap (λ (l : List ℕ). fixed order l) front ∙ sym is.3.1 in
    let a : length w ≢ 4 = λ same. omega (arith, twelve) in
    let long : initial_length_spelt order w ≡ long_length (fixed order (drop 4 w)) =
    rw (ne_eqb _ _ a, eq-eqb _ _ twelve, eq-eqb _ _ escape) refl in
    let made : long_length n ≡ good (length_is Dwarf64 n) = rw (le-leb n unit_length_limit is.5) refl in
    long ∙ ap long_length (ap (λ (l : List ℕ). fixed order l) tail ∙ sym is.4.1) ∙ made

-- ---- the path of an entry of a table of versions 2 to 4, or the table's end

-- such a field in the words of IsField
abbrev IsPath : ℕ → Item → List ℕ → Type 0
IsPath width i w = ((i ≡ end_is width) × (w ≡ 0 ∷ []))
    ⊎ ((bytes : List ℕ) × (i ≡ value_is (text bytes)) × IsText bytes w × (1 ≤ length bytes))

path_is_spelt : (width : ℕ) (i : Item) (w : List ℕ) → path_judged width w ≡ good i → IsPath width i w
path_is_spelt width i [] e = absurd (none_some {a = Ok i} refl e)
path_is_spelt width i (b ∷ []) e = elim (cases_Bool (b == 0)) [
  | inl t ↦ inl (good_item (end_is width) i (rw t at e), ap (λ (x : ℕ). x ∷ []) (eqb-true b 0 t))
  | inr n ↦ absurd (none_some {a = Ok i} refl (rw n at e))
]
path_is_spelt width i (b ∷ c ∷ w) e =
    let v = value_item (text_spelt (b ∷ c ∷ w)) i e in
    let t = text_is (b ∷ c ∷ w) v.0 v.1 in
    inr (
      t.0,
      v.2 ∙ ap (λ (u : Value). value_is u) t.1,
      t.2,
      omega (arith, ap length t.2.0, length-append t.0 (0 ∷ [])),
    )

path_of : (width : ℕ) (w : List ℕ) → 2 ≤ length w → path_judged width w ≡ value_judged (text_spelt w)
path_of width [] some = absurd (omega (arith, some))
path_of width (b ∷ []) some = absurd (omega (arith, some))
path_of width (b ∷ c ∷ w) some = refl

path_is_good : (width : ℕ) (i : Item) (w : List ℕ) → IsPath width i w → path_judged width w ≡ good i
path_is_good width i w (inl is) = ap (path_judged width) is.1
    ∙ ap (λ (j : Item). let o : Judgement Item = good j in o) (sym is.0)
path_is_good width i w (inr is) =
    path_of width w (omega (arith, ap length is.2.0, length-append is.0 (0 ∷ []), is.3))
    ∙ ap value_judged (text_good w (text is.0) (is.0, refl, is.2))
    ∙ ap (λ (j : Item). let o : Judgement Item = good j in o) (sym is.1)

-- ---- every field

field_is_spelt : (order : Order) (layout : Layout) (i : Item) (w : List ℕ) → field_spelt order layout w ≡ good i
    → IsField order layout i w
field_is_spelt order (initial_length_then next) i w e = length_is_spelt order w i e
field_is_spelt order (number_then field next) i w e = number_is_spelt order field next (number_size field) w i e
field_is_spelt order (form_then next) i w e = elim (cases_Bool (is_leb w)) [
  | inl t ↦
      let f = form_is_spelt (groups w) (form_of_code (groups w)) i refl (rw t at e) in
      (f.0, f.1, subst (λ (n : ℕ). IsUleb w n) f.2 (uleb_is w t))
  | inr n ↦ absurd (none_some {a = Ok i} refl (rw n at e))
]
field_is_spelt order (value_then format f next) i w e =
    let v = value_item (value_spelt order format f w) i e in
    (v.0, v.2, value_is_spelt order format f w v.0 v.1)
field_is_spelt order (path_or_end format pairs entries next) i w e = path_is_spelt (length pairs) i w e
field_is_spelt order (foreign_version v) i w e = none_some {a = Ok i} refl e
field_is_spelt order (last_entry h) i w e = none_some {a = Ok i} refl e

field_is_good : (order : Order) (layout : Layout) (i : Item) (w : List ℕ) → IsField order layout i w
    → field_spelt order layout w ≡ good i
field_is_good order (initial_length_then next) i w is = length_is_good order w is.0 is.1 is.3
    ∙ ap (λ (j : Item). let o : Judgement Item = good j in o) (sym is.2)
field_is_good order (number_then field next) i w is = number_is_good order field (number_size field) w i is
field_is_good order (form_then next) i w is =
    let t = uleb_test w (form_code is.0) is.2 in
    let made : field_spelt order (form_then next) w ≡ form_judged (groups w) (form_of_code (groups w)) = rw t.0 refl in
    made ∙ ap (λ (n : ℕ). form_judged n (form_of_code n)) (sym t.1)
    ∙ ap (λ (o : Option Form). form_judged (form_code is.0) o) (code_has_form is.0)
    ∙ ap (λ (j : Item). let o : Judgement Item = good j in o) (sym is.1)
field_is_good order (value_then format f next) i w is =
    ap value_judged (value_is_good order format f w is.0 is.2)
    ∙ ap (λ (j : Item). let o : Judgement Item = good j in o) (sym is.1)
field_is_good order (path_or_end format pairs entries next) i w is = path_is_good (length pairs) i w is
field_is_good order (foreign_version v) i w is = absurd is
field_is_good order (last_entry h) i w is = absurd is

pub field_is_judged : FieldIsJudged
field_is_judged order layout i w = (λ is. field_is_good order layout i w is, λ e. field_is_spelt order layout i w e)
