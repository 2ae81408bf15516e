-- The judgement of bytes as a value agrees with the standard's words.
use Rattle.std.proofs.Common.{◌≡◌, ◌≢◌, ℕ, suc, ◌+◌, ◌-◌, ◌^◌, ◌<◌, ◌≤◌, Bool, true, nat_le, ◌&&◌, ◌==◌, not}
use Rattle.std.proofs.Common.{if◌then◌else◌, List, [], ◌∷◌, ◌++◌, length, take, drop, None, Ok, refl, sym}
use Rattle.std.proofs.Common.{ap, subst, ◌∙◌, arith, inl, inr, length-append}
use Rattle.std.proofs.lemmas.Bool.{cases_lt, cases_Bool, lt-ltb, le-ltb, le-leb, lt-leb, eqb-true, eq-eqb}
use Rattle.std.proofs.lemmas.Bool.{ne_eqb}
use Rattle.std.proofs.lemmas.List.{take-append-drop, length-take-le, length-drop, take_at}
use Rattle.std.proofs.Math.Seq.{drop-append_seam, take-append_seam}
use Rattle.dl_num.specs.declared.fixed.Order.{Order}
use Rattle.dl_num.specs.Fixed.{fixed}
use Rattle.dl_num.specs.Leb.{groups, IsUleb}
use Rattle.dl_num.specs.LebFront.{is_leb, leb_front, after_leb}
use Rattle.dl_num.proofs.LebFrontLemmas.{true_false, and_left, and_right}
use Rattle.dl_num.proofs.LebLaws.{leb_tested, leb_is_front}
use Rattle.dl_table.specs.declared.form.Format.{Format}
use Rattle.dl_table.specs.declared.form.Form.{Form}
use Rattle.dl_table.specs.declared.form.Form.TheVariants as form
use Rattle.dl_table.specs.Value.{Value, text, line_str, str, str_sup, number, block, data16}
use Rattle.dl_table.specs.Value.{offset_size, Judgement, good, is_text, text_spelt}
use Rattle.dl_table.specs.Value.{number_spelt, block_spelt, leb_spelt, leb_block_spelt, value_spelt}
use Rattle.dl_field.specs.Field.{IsFixed, IsUleb64, HasNoZero, IsText, IsBlock, IsValue}
use Rattle.dl_field.proofs.FieldLemmas.{none_some}
use Rattle.dl_field.proofs.GoodLemmas.{good_value, good_if, bad_good}

make_if : {b : Bool} {u v : Value} → b ≡ true → v ≡ u → (if b then good u else None) ≡ good v
make_if t e = rw (t, e) refl

sized_is : (order : Order) (k : ℕ) (make : ℕ → Value) (w : List ℕ) (v : Value) → number_spelt order k make w ≡ good v
    → (n : ℕ) × (v ≡ make n) × IsFixed order k n w
sized_is order k make w v e = let t = good_if (length w == k) (make (fixed order w)) v e in
    (fixed order w, t.1, (eqb-true (length w) k t.0, refl))

sized_good : (order : Order) (k : ℕ) (make : ℕ → Value) (w : List ℕ) (v : Value)
    → (n : ℕ) × (v ≡ make n) × IsFixed order k n w → number_spelt order k make w ≡ good v
sized_good order k make w v is = make_if (eq-eqb (length w) k is.2.0) (is.1 ∙ ap make is.2.1)

no_zero : (w : List ℕ) → is_text w ≡ true → (bytes : List ℕ) × (take (length w - 1) w ≡ bytes) × IsText bytes w
no_zero [] e = absurd cc
no_zero (b ∷ []) e = ([], refl, (ap (λ (x : ℕ). x ∷ []) (eqb-true b 0 e), tt))
no_zero (b ∷ c ∷ w) e =
    let more = no_zero (c ∷ w) (and_right (not (b == 0)) (is_text (c ∷ w)) e) in
    let other : b ≢ 0 = λ same. true_false (and_left (not (b == 0)) (is_text (c ∷ w)) e) (ap not (eq-eqb b 0 same)) in
    let size : length (b ∷ c ∷ w) - 1 ≡ suc (length (c ∷ w) - 1) = omega arith in (
      b ∷ more.0,
      ap (λ (k : ℕ). take k (b ∷ c ∷ w)) size
          ∙ ap (λ (l : List ℕ). b ∷ l) more.1,
      (ap (λ (l : List ℕ). b ∷ l) more.2.0, (other, more.2.1)),
    )

pub text_is : (w : List ℕ) (v : Value) → text_spelt w ≡ good v → (bytes : List ℕ) × (v ≡ text bytes) × IsText bytes w
text_is w v e =
    let t = good_if (is_text w) (text (take (length w - 1) w)) v e in
    let z = no_zero w t.0 in
    (z.0, t.1 ∙ ap (λ (l : List ℕ). text l) z.1, z.2)

zero_ends : (bytes : List ℕ) → HasNoZero bytes → is_text (bytes ++ 0 ∷ []) ≡ true
zero_ends [] h = refl
zero_ends (b ∷ []) h = rw (ne_eqb b 0 h.0) refl
zero_ends (b ∷ c ∷ bytes) h = rw (ne_eqb b 0 h.0) (zero_ends (c ∷ bytes) h.1)

pub text_good : (w : List ℕ) (v : Value) → (bytes : List ℕ) × (v ≡ text bytes) × IsText bytes w → text_spelt w ≡ good v
text_good w v is =
    let bytes : take (length w - 1) w ≡ is.0 =
    (let size : length w - 1 ≡ length is.0 = omega (arith, ap length is.2.0, length-append is.0 (0 ∷ [])) in
    ap (λ (k : ℕ). take k w) size ∙ ap (λ (l : List ℕ). take (length is.0) l) is.2.0
    ∙ take-append_seam is.0 (0 ∷ [])) in
    make_if (ap is_text is.2.0 ∙ zero_ends is.0 is.2.1) (is.1 ∙ ap (λ (l : List ℕ). text l) (sym bytes))

le_of : (a b : ℕ) → nat_le a b ≡ true → a ≤ b
le_of a b h = elim (cases_lt b a) [ inl lt ↦ absurd (true_false h (lt-leb a b lt)) | inr le ↦ le ]

block_is : (order : Order) (k : ℕ) (w : List ℕ) (v : Value) → block_spelt order k w ≡ good v
    → (bytes : List ℕ) × (v ≡ block bytes) × IsBlock (IsFixed order k) bytes w
block_is order k w v e =
    let t = good_if (nat_le k (length w) && (length w == k + fixed order (take k w))) (block (drop k w)) v e in
    let le : k ≤ length w = le_of k (length w) (and_left (nat_le k (length w)) _ t.0) in
    let whole : length w ≡ k + fixed order (take k w) = eqb-true _ _ (and_right (nat_le k (length w)) _ t.0) in (
      drop k w,
      t.1,
      (
        take k w,
        sym (take-append-drop k w),
        (length-take-le k w le, omega (arith, whole, length-drop k w)),
      ),
    )

block_good : (order : Order) (k : ℕ) (w : List ℕ) (v : Value)
    → (bytes : List ℕ) × (v ≡ block bytes) × IsBlock (IsFixed order k) bytes w → block_spelt order k w ≡ good v
block_good order k w v is =
    let bytes = is.0 in
    let size = is.2.0 in
    let front : take k w ≡ size = ap (λ (l : List ℕ). take k l) is.2.1 ∙ take_at size bytes k is.2.2.0 in
    let tail : drop k w ≡ bytes = ap (λ (n : ℕ). drop n w) (sym is.2.2.0)
    ∙ ap (λ (l : List ℕ). drop (length size) l) is.2.1 ∙ drop-append_seam size bytes in
    let lengths : length w ≡ k + length bytes = omega (arith, ap length is.2.1, length-append size bytes, is.2.2.0) in
    let whole : length w ≡ k + fixed order (take k w) = lengths
    ∙ ap (λ (n : ℕ). k + n) (is.2.2.1 ∙ ap (λ (l : List ℕ). fixed order l) (sym front)) in
    make_if (rw (le-leb k (length w) (omega (arith, lengths))) (eq-eqb _ _ whole))
    (is.1 ∙ ap (λ (l : List ℕ). block l) (sym tail))

-- a number in LEB128 is its groups
pub uleb_is : (w : List ℕ) → is_leb w ≡ true → IsUleb w (groups w)
uleb_is w t = (leb_tested w (groups w)).1 (t, refl)

pub uleb_test : (w : List ℕ) (n : ℕ) → IsUleb w n → (is_leb w ≡ true) × (n ≡ groups w)
uleb_test w n is = (leb_tested w n).0 is

leb_is : (w : List ℕ) (v : Value) → leb_spelt w ≡ good v → (n : ℕ) × (v ≡ number n) × IsUleb64 n w
leb_is w v e = elim (cases_Bool (is_leb w)) [
  | inl t ↦ elim (cases_lt (groups w) (2 ^ 64)) [
    | inl lt ↦ (groups w, good_value (number (groups w)) v (rw (t, lt-ltb _ _ lt) at e), (uleb_is w t, lt))
    | inr le ↦ absurd (bad_good (rw (t, le-ltb _ _ le) at e))
  ]
  | inr n ↦ absurd (none_some {a = Ok v} refl (rw n at e))
]

leb_good : (w : List ℕ) (v : Value) → (n : ℕ) × (v ≡ number n) × IsUleb64 n w → leb_spelt w ≡ good v
leb_good w v is =
    let t = uleb_test w is.0 is.2.0 in
    let lt : groups w < 2 ^ 64 = omega (arith, is.2.1, t.1) in
    rw (t.0, lt-ltb _ _ lt, is.1, t.1) refl

front_after : (w : List ℕ) → is_leb (leb_front w) ≡ true → w ≡ leb_front w ++ after_leb w
front_after [] t = absurd cc
front_after (b ∷ w) t = elim (cases_lt b 128) [
  | inl lt ↦ rw (lt-ltb b 128 lt) refl
  | inr le ↦ rw (le-ltb b 128 le)
      (ap (λ (l : List ℕ). b ∷ l) (front_after w (tail_leb b (leb_front w) le (rw (le-ltb b 128 le) at t))))
] where
  tail_leb : (a : ℕ) (z : List ℕ) → 128 ≤ a → is_leb (a ∷ z) ≡ true → is_leb z ≡ true
  tail_leb a [] le e = absurd (true_false e (le-ltb a 128 le))
  tail_leb a (c ∷ z) le e = and_right (nat_le 128 a) (is_leb (c ∷ z)) e

leb_block_at : (w : List ℕ) (v : Value) → is_leb (leb_front w) ≡ true → leb_block_spelt w ≡ good v
    → (bytes : List ℕ) × (v ≡ block bytes) × IsBlock IsUleb64 bytes w
leb_block_at w v t e = elim (cases_lt (groups (leb_front w)) (2 ^ 64)) [
  | inl lt ↦
      let g = good_if (length (after_leb w) == groups (leb_front w)) (block (after_leb w)) v
      (rw (t, lt-ltb _ _ lt) at e) in
      let size : length (after_leb w) ≡ groups (leb_front w) = eqb-true _ _ g.0 in (
        after_leb w,
        g.1,
        (
          leb_front w,
          front_after w t,
          (subst (λ (n : ℕ). IsUleb (leb_front w) n) (sym size) (uleb_is (leb_front w) t), omega (arith, size, lt)),
        ),
      )
  | inr le ↦ elim (cases_Bool (is_leb w)) [
    | inl u ↦ absurd (bad_good (rw (t, le-ltb _ _ le, u) at e))
    | inr n ↦ absurd (none_some {a = Ok v} refl (rw (t, le-ltb _ _ le, n) at e))
  ]
]

leb_block_is : (w : List ℕ) (v : Value) → leb_block_spelt w ≡ good v
    → (bytes : List ℕ) × (v ≡ block bytes) × IsBlock IsUleb64 bytes w
leb_block_is w v e = elim (cases_Bool (is_leb (leb_front w))) [
  | inl t ↦ leb_block_at w v t e
  | inr n ↦
      absurd (none_some {a = Ok v} refl (rw n at e))
]

leb_block_good : (w : List ℕ) (v : Value) → (bytes : List ℕ) × (v ≡ block bytes) × IsBlock IsUleb64 bytes w
    → leb_block_spelt w ≡ good v
leb_block_good w v is =
    let bytes = is.0 in
    let size = is.2.0 in
    let n : IsUleb size (length bytes) = is.2.2.0 in
    let t = uleb_test size (length bytes) n in
    let f = leb_is_front size bytes (length bytes) n in
    let front : leb_front w ≡ size = ap leb_front is.2.1 ∙ f.0 in
    let tail : after_leb w ≡ bytes = ap after_leb is.2.1 ∙ f.1 in
    let whole : length (after_leb w) ≡ groups (leb_front w) = ap length tail ∙ t.1 ∙ ap groups (sym front) in
    let number : is_leb (leb_front w) ≡ true = ap is_leb front ∙ t.0 in
    let lt : groups (leb_front w) < 2 ^ 64 = omega (arith, is.2.2.1, whole, ap length tail) in
    let made : leb_block_spelt w ≡ good (block (after_leb w)) = rw (number, lt-ltb _ _ lt, eq-eqb _ _ whole) refl in
    made ∙ ap (λ (u : Value). let o : Judgement Value = good u in o) (ap (λ (l : List ℕ). block l) tail ∙ sym is.1)

pub value_is_spelt : (order : Order) (format : Format) (f : Form) (w : List ℕ) (v : Value)
    → value_spelt order format f w ≡ good v → IsValue order format f v w
value_is_spelt order format form.Block2 w v e = block_is order 2 w v e
value_is_spelt order format form.Block4 w v e = block_is order 4 w v e
value_is_spelt order format form.Data2 w v e = sized_is order 2 number w v e
value_is_spelt order format form.Data4 w v e = sized_is order 4 number w v e
value_is_spelt order format form.Data8 w v e = sized_is order 8 number w v e
value_is_spelt order format form.String w v e = text_is w v e
value_is_spelt order format form.Block w v e = leb_block_is w v e
value_is_spelt order format form.Block1 w v e = block_is order 1 w v e
value_is_spelt order format form.Data1 w v e = sized_is order 1 number w v e
value_is_spelt order format form.Strp w v e = sized_is order (offset_size format) str w v e
value_is_spelt order format form.Udata w v e = leb_is w v e
value_is_spelt order format form.StrpSup w v e = sized_is order (offset_size format) str_sup w v e
value_is_spelt order format form.Data16 w v e = let t = good_if (length w == 16) (data16 w) v e in
    (t.1, eqb-true (length w) 16 t.0)
value_is_spelt order format form.LineStrp w v e = sized_is order (offset_size format) line_str w v e

pub value_is_good : (order : Order) (format : Format) (f : Form) (w : List ℕ) (v : Value) → IsValue order format f v w
    → value_spelt order format f w ≡ good v
value_is_good order format form.Block2 w v is = block_good order 2 w v is
value_is_good order format form.Block4 w v is = block_good order 4 w v is
value_is_good order format form.Data2 w v is = sized_good order 2 number w v is
value_is_good order format form.Data4 w v is = sized_good order 4 number w v is
value_is_good order format form.Data8 w v is = sized_good order 8 number w v is
value_is_good order format form.String w v is = text_good w v is
value_is_good order format form.Block w v is = leb_block_good w v is
value_is_good order format form.Block1 w v is = block_good order 1 w v is
value_is_good order format form.Data1 w v is = sized_good order 1 number w v is
value_is_good order format form.Strp w v is = sized_good order (offset_size format) str w v is
value_is_good order format form.Udata w v is = leb_good w v is
value_is_good order format form.StrpSup w v is = sized_good order (offset_size format) str_sup w v is
value_is_good order format form.Data16 w v is = make_if (eq-eqb (length w) 16 is.1) is.0
value_is_good order format form.LineStrp w v is = sized_good order (offset_size format) line_str w v is
