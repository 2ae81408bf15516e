-- A field ends once: no spelling of a field, good or bad, begins another spelling of it.
use Rattle.std.proofs.Common.{◌≡◌, ℕ, ◌+◌, ◌^◌, ◌<◌, ◌≤◌, ◌==◌, Bool, true, false, not, nat_le, ◌&&◌, if◌then◌else◌}
use Rattle.std.proofs.Common.{List, [], ◌∷◌, ◌++◌, length, take, drop, Option, Some, None, Result, refl, sym, ap, ◌∙◌}
use Rattle.std.proofs.Common.{arith, ◌⊎◌, inl, inr, length-append}
use Rattle.std.proofs.lemmas.Bool.{cases_lt, cases_eq, cases_Bool, lt-ltb, le-ltb, lt-leb, eqb-true, eq-eqb, ne_eqb}
use Rattle.std.proofs.lemmas.List.{take-append-le, drop-append-le, take_all}
use Rattle.dl_num.specs.declared.fixed.Order.{Order}
use Rattle.dl_num.specs.declared.fixed.Order.TheVariants.{Little, Big}
use Rattle.dl_num.specs.Fixed.{fixed}
use Rattle.dl_num.specs.Leb.{groups}
use Rattle.dl_num.specs.LebFront.{is_leb, leb_front, after_leb}
use Rattle.dl_num.proofs.LebFrontLemmas.{true_false, and_left, and_right, is_leb-once, leb_front-append, leb_front-le}
use Rattle.dl_table.specs.declared.form.Format.{Format}
use Rattle.dl_table.specs.declared.form.Format.TheVariants.{Dwarf32, Dwarf64}
use Rattle.dl_table.specs.declared.form.Form.{Form}
use Rattle.dl_table.specs.declared.form.Form.TheVariants as form
use Rattle.dl_table.specs.declared.fault.FaultKind.{FaultKind}
use Rattle.dl_table.specs.Value.{Value, Judgement, is_text, text_spelt, block_spelt, leb_block_spelt, offset_size}
use Rattle.dl_table.specs.Value.{value_spelt}
use Rattle.dl_field.specs.Layout.{Layout, NumberField, initial_length_then, number_then, form_then, value_then}
use Rattle.dl_field.specs.Layout.{path_or_end, path_judged}
use Rattle.dl_field.specs.Layout.{foreign_version, last_entry, Item, initial_length_spelt, number_judged, number_size}
use Rattle.dl_field.specs.Layout.{sized_spelt, value_judged, field_spelt, following, following_all}
use Rattle.dl_field.specs.Layout.{version, address_size, any_byte, header_length, maximum_operations, line_range}
use Rattle.dl_field.specs.Layout.{opcode_base, opcode_length, content_code, entry_count}

-- what is judged is not judged at more bytes
abbrev pub Once : {A : Type 0} → (List ℕ → Option A) → Type 0
Once {A = A} judge = (w : List ℕ) (x : ℕ) (v : List ℕ) (r s : A) → judge w ≡ Some r → judge (w ++ x ∷ v) ≡ Some s → ⊥

pub none_some : {A : Type 0} {o : Option A} {a : A} → o ≡ None → o ≡ Some a → ⊥
none_some {A = A} {o = o} {a = a} e f = let g : ◌≡◌ {A = Option A} None (Some a) = sym e ∙ f in absurd cc

pub some_same : (a b : ℕ) → ◌≡◌ {A = Option ℕ} (Some a) (Some b) → a ≡ b
some_same a b e = cc

-- a test that holds where anything is judged
pub if_some : {A : Type 0} (b : Bool) (o : Option A) (a : A) → (if b then o else None) ≡ Some a → b ≡ true
if_some true o a e = refl
if_some {A = A} false o a e = absurd (none_some {A = A} refl e)

longer : (w : List ℕ) (x : ℕ) (v : List ℕ) (k : ℕ) → length w ≡ k → length (w ++ x ∷ v) ≡ k → ⊥
longer w x v k e f = absurd (omega (arith, length-append w (x ∷ v)))

pub sized_once : {A : Type 0} (k : ℕ) (o : List ℕ → Option A) → Once (λ w. if length w == k then o w else None)
sized_once k o w x v r s e f =
    longer w x v k (eqb-true (length w) k (if_some (length w == k) (o w) r e))
    (eqb-true (length (w ++ x ∷ v)) k (if_some (length (w ++ x ∷ v) == k) (o (w ++ x ∷ v)) s f))

pub leb_once : {A : Type 0} (o : List ℕ → Option A) → Once (λ w. if is_leb w then o w else None)
leb_once o w x v r s e f =
    true_false (if_some (is_leb (w ++ x ∷ v)) (o (w ++ x ∷ v)) s f) (is_leb-once w x v (if_some (is_leb w) (o w) r e))

is_text-once : (w : List ℕ) (x : ℕ) (v : List ℕ) → is_text w ≡ true → is_text (w ++ x ∷ v) ≡ false
is_text-once [] x v e = absurd cc
is_text-once (a ∷ []) x v e = rw e refl
is_text-once (a ∷ c ∷ w) x v e =
    let t = and_left (not (a == 0)) (is_text (c ∷ w)) e in
    rw t (is_text-once (c ∷ w) x v (and_right (not (a == 0)) (is_text (c ∷ w)) e))

pub text_once : Once text_spelt
text_once w x v r s e f = true_false (if_some (is_text (w ++ x ∷ v)) _ s f)
    (is_text-once w x v (if_some (is_text w) _ r e))

pub block_once : (order : Order) (k : ℕ) → Once (block_spelt order k)
block_once order k w x v r s e f =
    let t = if_some (nat_le k (length w) && (length w == k + fixed order (take k w))) _ r e in
    let u = if_some (nat_le k (length (w ++ x ∷ v)) && (length (w ++ x ∷ v) == k + fixed order (take k (w ++ x ∷ v)))) _
    s f in
    let le : k ≤ length w = le_of k (length w) (and_left _ _ t) in
    let one = eqb-true _ _ (and_right (nat_le k (length w)) (length w == k + fixed order (take k w)) t) in
    let two = eqb-true _ _ (and_right (nat_le k (length (w ++ x ∷ v)))
    (length (w ++ x ∷ v) == k + fixed order (take k (w ++ x ∷ v))) u) in
    let same : take k (w ++ x ∷ v) ≡ take k w = take-append-le k w (x ∷ v) le in
    longer w x v (k + fixed order (take k w)) one (two ∙ ap (λ (z : List ℕ). k + fixed order z) same)
  where
    le_of : (a b : ℕ) → nat_le a b ≡ true → a ≤ b
    le_of a b h = elim (cases_lt b a) [ inl lt ↦ absurd (true_false h (lt-leb a b lt)) | inr le ↦ le ]

-- of a block with a LEB128 length, what is judged has its whole length
leb_block_front : (w : List ℕ) (r : Result Value FaultKind) → leb_block_spelt w ≡ Some r → is_leb (leb_front w) ≡ true
leb_block_front w r e = elim (cases_Bool (is_leb (leb_front w))) [
  | inl t ↦ t
  | inr n ↦ absurd (none_some (rw n refl) e)
]

leb_block_cases : (w : List ℕ) (r : Result Value FaultKind) → leb_block_spelt w ≡ Some r
    → ((groups (leb_front w) < 2 ^ 64) × (length (after_leb w) ≡ groups (leb_front w)))
    ⊎ ((2 ^ 64 ≤ groups (leb_front w)) × (is_leb w ≡ true))
leb_block_cases w r e =
    let front = leb_block_front w r e in
    elim (cases_lt (groups (leb_front w)) (2 ^ 64)) [
      | inl lt ↦ inl (
        lt,
        eqb-true _ _
            (if_some (length (after_leb w) == groups (leb_front w)) _ r (rw (front, lt-ltb _ _ lt) at e)),
      )
      | inr le ↦ inr (le, if_some (is_leb w) _ r (rw (front, le-ltb _ _ le) at e))
    ]

pub leb_block_once : Once leb_block_spelt
leb_block_once w x v r s e f =
    let front = leb_block_front w r e in
    let same : leb_front (w ++ x ∷ v) ≡ leb_front w = leb_front-append w (x ∷ v) front in
    let size = ap (λ (z : List ℕ). groups z) same in
    let tail : after_leb (w ++ x ∷ v) ≡ after_leb w ++ x ∷ v =
    ap (λ (z : List ℕ). drop (length z) (w ++ x ∷ v)) same
    ∙ drop-append-le (length (leb_front w)) w (x ∷ v) (leb_front-le w) in
    elim (leb_block_cases w r e) [
      | inl a ↦ elim (leb_block_cases (w ++ x ∷ v) s f) [
        | inl b ↦ longer (after_leb w) x v (groups (leb_front w)) a.1 (ap length (sym tail) ∙ b.1 ∙ size)
        | inr b ↦ absurd (omega (arith, size, a.0, b.0))
      ]
      | inr a ↦ elim (leb_block_cases (w ++ x ∷ v) s f) [
        | inl b ↦ absurd (omega (arith, size, a.0, b.0))
        | inr b ↦ true_false b.1 (is_leb-once w x v a.1)
      ]
    ]

pub value_once : (order : Order) (format : Format) (f : Form) → Once (value_spelt order format f)
value_once order format form.Block2 = block_once order 2
value_once order format form.Block4 = block_once order 4
value_once order format form.Data2 = sized_once 2 _
value_once order format form.Data4 = sized_once 4 _
value_once order format form.Data8 = sized_once 8 _
value_once order format form.String = text_once
value_once order format form.Block = leb_block_once
value_once order format form.Block1 = block_once order 1
value_once order format form.Data1 = sized_once 1 _
value_once order format form.Strp = sized_once (offset_size format) _
value_once order format form.Udata = leb_once _
value_once order format form.StrpSup = sized_once (offset_size format) _
value_once order format form.Data16 = sized_once 16 _
value_once order format form.LineStrp = sized_once (offset_size format) _

-- what is judged has four bytes or twelve
pub length_cases : (order : Order) (w : List ℕ) (r : Result Item FaultKind) → initial_length_spelt order w ≡ Some r
    → (length w ≡ 4) ⊎ ((length w ≡ 12) × (fixed order (take 4 w) ≡ 0xffffffff))
length_cases order w r e = elim (cases_eq (length w) 4) [
  | inl four ↦ inl four
  | inr n ↦
      let t = if_some ((length w == 12) && (fixed order (take 4 w) == 0xffffffff)) _ r
      (rw (ne_eqb (length w) 4 n) at e) in
      inr (
        eqb-true _ _ (and_left (length w == 12) _ t),
        eqb-true _ _ (and_right (length w == 12) (fixed order (take 4 w) == 0xffffffff) t),
      )
]

take_four : (w y : List ℕ) → length w ≡ 4 → take 4 (w ++ y) ≡ w
take_four w y four = take-append-le 4 w y (omega arith) ∙ take_all 4 w (omega arith)

escape : (order : Order) (w : List ℕ) → length w ≡ 4 → fixed order w ≡ 0xffffffff → initial_length_spelt order w ≡ None
escape order w four n = rw (eq-eqb _ _ four, n) refl

-- four bytes that are the escape are not judged
four_twelve : (order : Order) (w : List ℕ) (x : ℕ) (v : List ℕ) (r : Result Item FaultKind)
    → initial_length_spelt order w ≡ Some r → length w ≡ 4
    → (length (w ++ x ∷ v) ≡ 4) ⊎ ((length (w ++ x ∷ v) ≡ 12) × (fixed order (take 4 (w ++ x ∷ v)) ≡ 0xffffffff)) → ⊥
four_twelve order w x v r e four (inl b) = absurd (omega (arith, length-append w (x ∷ v)))
four_twelve order w x v r e four (inr b) =
    let n : fixed order w ≡ 0xffffffff = sym (ap (λ (z : List ℕ). fixed order z) (take_four w (x ∷ v) four)) ∙ b.1 in
    none_some (escape order w four n) e

length_once : (order : Order) → Once (initial_length_spelt order)
length_once order w x v r s e f = elim (length_cases order w r e) [
  | inl four ↦ absurd (four_twelve order w x v r e four (length_cases order (w ++ x ∷ v) s f))
  | inr a ↦ elim (length_cases order (w ++ x ∷ v) s f) [
    | inl b ↦ absurd (omega (arith, length-append w (x ∷ v)))
    | inr b ↦ longer w x v 12 a.0 b.0
  ]
]

-- what is judged as a number of fixed size has that size
pub sized_length : (order : Order) (field : NumberField) (k : ℕ) (w : List ℕ) (r : Result Item FaultKind)
    → number_judged field (sized_spelt order (Some k) w) ≡ Some r → length w ≡ k
sized_length order field k w r e =
    elim (cases_eq (length w) k) [ inl h ↦ h | inr n ↦ absurd (none_some (rw (ne_eqb (length w) k n) refl) e) ]

number_once : (order : Order) (field : NumberField) (size : Option ℕ)
    → Once (λ w. number_judged field (sized_spelt order size w))
number_once order field (Some k) w x v r s e f = longer w x v k (size_of w r e) (size_of (w ++ x ∷ v) s f)
  where
    size_of : (w : List ℕ) (r : Result Item FaultKind) → number_judged field (sized_spelt order (Some k) w) ≡ Some r
        → length w ≡ k
    size_of w r e = elim (cases_eq (length w) k) [
      | inl h ↦ h
      | inr n ↦
          absurd (none_some (rw (ne_eqb (length w) k n) refl) e)
    ]
number_once order field None w x v r s e f = true_false (leb_of (w ++ x ∷ v) s f) (is_leb-once w x v (leb_of w r e))
  where
    leb_of : (w : List ℕ) (r : Result Item FaultKind) → number_judged field (sized_spelt order None w) ≡ Some r
        → is_leb w ≡ true
    leb_of w r e = elim (cases_Bool (is_leb w)) [ inl h ↦ h | inr n ↦ absurd (none_some (rw n refl) e) ]

value_some : (o : Judgement Value) (r : Result Item FaultKind) → value_judged o ≡ Some r
    → (s : Result Value FaultKind) × (o ≡ Some s)
value_some None r e = absurd (none_some refl e)
value_some (Some s) r e = (s, refl)

path_once : (width : ℕ) → Once (path_judged width)
path_once width [] x v r s e f = none_some refl e
path_once width (b ∷ []) x v r s e f =
    let zero : (b == 0) ≡ true = if_some (b == 0) _ r e in
    none_some (rw zero refl) f
path_once width (b ∷ c ∷ w) x v r s e f =
    let a = value_some (text_spelt (b ∷ c ∷ w)) r e in
    let d = value_some (text_spelt ((b ∷ c ∷ w) ++ x ∷ v)) s f in
    text_once (b ∷ c ∷ w) x v a.0 d.0 a.1 d.1

-- no spelling of a field, good or bad, begins another
pub field_once : (order : Order) (layout : Layout) → Once (field_spelt order layout)
field_once order (initial_length_then next) = length_once order
field_once order (number_then field next) = number_once order field (number_size field)
field_once order (form_then next) = leb_once _
field_once order (value_then format f next) = λ w x v r s e h.
    let a = value_some (value_spelt order format f w) r e in
    let b = value_some (value_spelt order format f (w ++ x ∷ v)) s h in
    value_once order format f w x v a.0 b.0 a.1 b.1
field_once order (path_or_end format pairs entries next) = path_once (length pairs)
field_once order (foreign_version n) = λ w x v r s e h. none_some refl e
field_once order (last_entry d) = λ w x v r s e h. none_some refl e

-- no field is empty
pub field_empty : (order : Order) (layout : Layout) → field_spelt order layout [] ≡ None
field_empty order (initial_length_then next) = refl
field_empty order (number_then (header_length Dwarf32 left) next) = refl
field_empty order (number_then (header_length Dwarf64 left) next) = refl
field_empty order (number_then version next) = refl
field_empty order (number_then address_size next) = refl
field_empty order (number_then any_byte next) = refl
field_empty order (number_then maximum_operations next) = refl
field_empty order (number_then line_range next) = refl
field_empty order (number_then opcode_base next) = refl
field_empty order (number_then (opcode_length n) next) = refl
field_empty order (number_then content_code next) = refl
field_empty order (number_then (entry_count b) next) = refl
field_empty order (form_then next) = refl
field_empty order (value_then Dwarf32 form.Strp next) = refl
field_empty order (value_then Dwarf64 form.Strp next) = refl
field_empty order (value_then Dwarf32 form.StrpSup next) = refl
field_empty order (value_then Dwarf64 form.StrpSup next) = refl
field_empty order (value_then Dwarf32 form.LineStrp next) = refl
field_empty order (value_then Dwarf64 form.LineStrp next) = refl
field_empty order (value_then format form.Block2 next) = refl
field_empty order (value_then format form.Block4 next) = refl
field_empty order (value_then format form.Data2 next) = refl
field_empty order (value_then format form.Data4 next) = refl
field_empty order (value_then format form.Data8 next) = refl
field_empty order (value_then format form.String next) = refl
field_empty order (value_then format form.Block next) = refl
field_empty order (value_then format form.Block1 next) = refl
field_empty order (value_then format form.Data1 next) = refl
field_empty order (value_then format form.Udata next) = refl
field_empty order (value_then format form.Data16 next) = refl
field_empty order (path_or_end format pairs entries next) = refl
field_empty order (foreign_version v) = refl
field_empty order (last_entry h) = refl

-- a byte is the number that it spells
pub fixed-one : (order : Order) (x : ℕ) → fixed order (x ∷ []) ≡ x
fixed-one Little x = omega arith
fixed-one Big x = omega arith

-- ---- what follows fields

pub following_all-append : (layout : Layout) (items more : List Item)
    → following_all layout (items ++ more) ≡ following_all (following_all layout items) more
following_all-append layout [] more = refl
following_all-append layout (i ∷ items) more = following_all-append (following layout i) items more
