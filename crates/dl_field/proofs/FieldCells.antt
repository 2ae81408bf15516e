-- How many cells the bytes of a field of a table are.
use Rattle.std.proofs.Common.{◌≡◌, ℕ, ◌+◌, ◌-◌, ◌^◌, ◌<◌, ◌≤◌, Bool, true, false, nat_lt, nat_le, ◌&&◌, ◌==◌}
use Rattle.std.proofs.Common.{if◌then◌else◌, List, [], ◌∷◌, ◌++◌, length, take, drop, Option, Some, None, Ok, Err, inl}
use Rattle.std.proofs.Common.{inr, refl, sym, ap, ◌∙◌, arith, length-append}
use Rattle.std.proofs.lemmas.Bool.{cases_Bool, le-leb, lt-leb, lt-ltb, le-ltb}
use Rattle.std.proofs.lemmas.List.{length-take-le, length-drop}
use Rattle.dl_num.specs.declared.fixed.Order.{Order}
use Rattle.dl_num.specs.declared.leb.Uleb.{Uleb}
use Rattle.dl_num.specs.declared.leb.LebRange.{LebRange}
use Rattle.dl_num.specs.Fixed.{fixed}
use Rattle.dl_num.specs.Leb.{groups}
use Rattle.dl_num.specs.LebFront.{is_leb, leb_front, after_leb}
use Rattle.dl_num.specs.LebReader.{UlebTook, UlebIs}
use Rattle.dl_num.proofs.LebFrontLemmas.{and_left, is_leb-continues, leb_front-continues, leb_front-leb}
use Rattle.dl_num.proofs.LebLaws.{leb_tested, leb_is_front}
use Rattle.dl_table.specs.declared.fault.FaultKind.{FaultKind}
use Rattle.dl_table.specs.declared.form.Format.{Format}
use Rattle.dl_table.specs.declared.form.Form.{Form}
use Rattle.dl_table.specs.declared.form.Form.TheVariants as form
use Rattle.dl_field.specs.Field.{IsFixed, IsUleb64}
use Rattle.dl_table.specs.TableCells.{value_cells}
use Rattle.dl_field.specs.Cells.{item_cells, begun_block, begun_leb_block, begun_cells, rest_cells}
use Rattle.dl_table.specs.Value.{Value, text, line_str, str, str_sup, number, block, data16, Judgement, good, bad}
use Rattle.dl_table.specs.Value.{is_text, text_spelt, block_spelt, leb_spelt, leb_block_spelt, value_spelt}
use Rattle.dl_field.specs.Layout.{NumberField, Layout, number_then, form_then, value_then, Item, value_is, field_spelt}
use Rattle.dl_field.specs.Layout.{number_size, sized_spelt, number_judged, judged, objection, value_judged}
use Rattle.dl_field.specs.TablePlace.{field_cells, number_bytes_of, length_bytes_of, IsLengthOf}
use Rattle.dl_field.specs.TableMoves.{has_bytes}
use Rattle.dl_field.proofs.FieldLemmas.{none_some, some_same}
use Rattle.dl_field.proofs.GoodLemmas.{good_if, good_value, bad_good, value_item, is_form}

-- ---- by what the bytes are

abbrev judged_cells : ℕ → Judgement Item → ℕ
judged_cells n o = elim o [ Some (Ok i) ↦ item_cells i | Some (Err kind) ↦ n | None ↦ n ]

pub cells_good : (order : Order) (layout : Layout) (w : List ℕ) (i : Item) → field_spelt order layout w ≡ good i
    → field_cells order layout w ≡ item_cells i
cells_good order layout w i e = ap (judged_cells (rest_cells layout w)) e

pub cells_open : (order : Order) (layout : Layout) (w : List ℕ) → field_spelt order layout w ≡ None
    → field_cells order layout w ≡ rest_cells layout w
cells_open order layout w e = ap (judged_cells (rest_cells layout w)) e

pub cells_bad : (order : Order) (layout : Layout) (w : List ℕ) (kind : FaultKind)
    → field_spelt order layout w ≡ bad kind → field_cells order layout w ≡ rest_cells layout w
cells_bad order layout w kind e = ap (judged_cells (rest_cells layout w)) e

pub some_cell : (v : Value) → 1 ≤ value_cells v
some_cell (text bytes) = omega arith
some_cell (line_str n) = omega arith
some_cell (str n) = omega arith
some_cell (str_sup n) = omega arith
some_cell (number n) = omega arith
some_cell (block bytes) = omega arith
some_cell (data16 bytes) = omega arith

-- ---- numbers

no_cell : (o : Option FaultKind) (n : ℕ) → judged_cells 0 (judged o n) ≡ 0
no_cell None n = refl
no_cell (Some kind) n = refl

number_cell : (field : NumberField) (o : Option ℕ) → judged_cells 0 (number_judged field o) ≡ 0
number_cell field None = refl
number_cell field (Some n) = no_cell (objection field n) n

-- a number of the table is no cell
pub number_cells : (order : Order) (field : NumberField) (next : ℕ → Layout) (w : List ℕ)
    → field_cells order (number_then field next) w ≡ 0
number_cells order field next w = number_cell field (sized_spelt order (number_size field) w)

-- ---- form codes

pub form_cell : (order : Order) (next : Form → Layout) (w : List ℕ) (i : Item)
    → field_spelt order (form_then next) w ≡ good i → item_cells i ≡ 1
form_cell order next w i e = ap item_cells (is_form w i e).1

-- ---- values of one cell

true_is_false : {A : Type 0} → true ≡ false → A
true_is_false e = absurd cc

-- of the other forms no byte is a cell
pub no_bytes : (f : Form) (w : List ℕ) → has_bytes f ≡ false → begun_cells f w ≡ 0
no_bytes form.Block2 w e = true_is_false e
no_bytes form.Block4 w e = true_is_false e
no_bytes form.Data2 w e = refl
no_bytes form.Data4 w e = refl
no_bytes form.Data8 w e = refl
no_bytes form.String w e = true_is_false e
no_bytes form.Block w e = true_is_false e
no_bytes form.Block1 w e = true_is_false e
no_bytes form.Data1 w e = refl
no_bytes form.Strp w e = refl
no_bytes form.Udata w e = refl
no_bytes form.StrpSup w e = refl
no_bytes form.Data16 w e = refl
no_bytes form.LineStrp w e = refl

sized_cell : (size : Bool) (u v : Value) → value_cells u ≡ 1 → (if size then good u else None) ≡ good v
    → value_cells v ≡ 1
sized_cell size u v one e = ap value_cells (good_if size u v e).1 ∙ one

leb_cell : (w : List ℕ) (v : Value) → leb_spelt w ≡ good v → value_cells v ≡ 1
leb_cell w v e = elim (cases_Bool (is_leb w)) [
  | inl t ↦ elim (cases_Bool (nat_lt (groups w) (2 ^ 64))) [
    | inl lt ↦ ap value_cells (good_value (number (groups w)) v (rw (t, lt) at e))
    | inr le ↦ absurd (bad_good (rw (t, le) at e))
  ]
  | inr n ↦ absurd (none_some {a = Ok v} refl (rw n at e))
]

-- a value of such a form is one cell
pub value_cell : (order : Order) (format : Format) (f : Form) (w : List ℕ) (v : Value) → has_bytes f ≡ false
    → value_spelt order format f w ≡ good v → value_cells v ≡ 1
value_cell order format form.Block2 w v none e = true_is_false none
value_cell order format form.Block4 w v none e = true_is_false none
value_cell order format form.Data2 w v none e = sized_cell _ _ v refl e
value_cell order format form.Data4 w v none e = sized_cell _ _ v refl e
value_cell order format form.Data8 w v none e = sized_cell _ _ v refl e
value_cell order format form.String w v none e = true_is_false none
value_cell order format form.Block w v none e = true_is_false none
value_cell order format form.Block1 w v none e = true_is_false none
value_cell order format form.Data1 w v none e = sized_cell _ _ v refl e
value_cell order format form.Strp w v none e = sized_cell _ _ v refl e
value_cell order format form.Udata w v none e = leb_cell w v e
value_cell order format form.StrpSup w v none e = sized_cell _ _ v refl e
value_cell order format form.Data16 w v none e = sized_cell _ _ v refl e
value_cell order format form.LineStrp w v none e = sized_cell _ _ v refl e

pub value_item_cell : (order : Order) (format : Format) (f : Form) (next : Value → Layout) (w : List ℕ) (i : Item)
    → has_bytes f ≡ false → field_spelt order (value_then format f next) w ≡ good i
    → item_cells i ≡ 1
value_item_cell order format f next w i none e =
    let v = value_item (value_spelt order format f w) i e in
    ap item_cells v.2 ∙ value_cell order format f w v.0 none v.1

-- ---- values whose bytes are cells

-- a value is as many cells as its bytes so far, whether it is whole or not
bytes_cells : (order : Order) (format : Format) (f : Form) (next : Value → Layout) (w : List ℕ)
    → ((v : Value) → value_spelt order format f w ≡ good v → value_cells v ≡ begun_cells f w)
    → (o : Judgement Value) → value_spelt order format f w ≡ o
    → field_cells order (value_then format f next) w ≡ begun_cells f w
bytes_cells order format f next w whole None e = cells_open order (value_then format f next) w (ap value_judged e)
bytes_cells order format f next w whole (Some (Err kind)) e =
    cells_bad order (value_then format f next) w kind (ap value_judged e)
bytes_cells order format f next w whole (Some (Ok v)) e =
    cells_good order (value_then format f next) w (value_is v) (ap value_judged e) ∙ whole v e

text_whole : (w : List ℕ) (v : Value) → text_spelt w ≡ good v → value_cells v ≡ length w
text_whole [] v e = absurd (none_some {a = Ok v} refl e)
text_whole (x ∷ w) v e =
    let t = good_if (is_text (x ∷ w)) (text (take (length (x ∷ w) - 1) (x ∷ w))) v e in
    ap value_cells t.1 ∙ omega (arith, length-take-le (length (x ∷ w) - 1) (x ∷ w) (omega arith))

block_whole : (order : Order) (k : ℕ) (w : List ℕ) (v : Value) → block_spelt order k w ≡ good v
    → value_cells v ≡ begun_block k w
block_whole order k w v e =
    let t = good_if (nat_le k (length w) && (length w == k + fixed order (take k w))) (block (drop k w)) v e in
    ap value_cells t.1 ∙ rw (and_left (nat_le k (length w)) (length w == k + fixed order (take k w)) t.0)
    (omega (arith, length-drop k w))

leb_block_whole : (w : List ℕ) (v : Value) → leb_block_spelt w ≡ good v → value_cells v ≡ begun_leb_block w
leb_block_whole w v e = elim (cases_Bool (is_leb (leb_front w))) [
  | inl t ↦ elim (cases_Bool (nat_lt (groups (leb_front w)) (2 ^ 64))) [
    | inl lt ↦ ap value_cells (good_if (length (after_leb w) == groups (leb_front w)) (block (after_leb w)) v
        (rw (t, lt) at e)).1 ∙ rw (t, lt) refl
    | inr le ↦ elim (cases_Bool (is_leb w)) [
      | inl u ↦ absurd (bad_good (rw (t, le, u) at e))
      | inr n ↦ absurd (none_some {a = Ok v} refl (rw (t, le, n) at e))
    ]
  ]
  | inr n ↦ absurd (none_some {a = Ok v} refl (rw n at e))
]

pub value_bytes : (order : Order) (format : Format) (f : Form) (next : Value → Layout) (w : List ℕ) → has_bytes f ≡ true
    → field_cells order (value_then format f next) w ≡ begun_cells f w
value_bytes order format form.String next w some =
    bytes_cells order format form.String next w (text_whole w) (text_spelt w) refl
value_bytes order format form.Block1 next w some =
    bytes_cells order format form.Block1 next w (block_whole order 1 w) (block_spelt order 1 w) refl
value_bytes order format form.Block2 next w some =
    bytes_cells order format form.Block2 next w (block_whole order 2 w) (block_spelt order 2 w) refl
value_bytes order format form.Block4 next w some =
    bytes_cells order format form.Block4 next w (block_whole order 4 w) (block_spelt order 4 w) refl
value_bytes order format form.Block next w some =
    bytes_cells order format form.Block next w (leb_block_whole w) (leb_block_spelt w) refl
value_bytes order format form.Data2 next w some = true_is_false (sym some)
value_bytes order format form.Data4 next w some = true_is_false (sym some)
value_bytes order format form.Data8 next w some = true_is_false (sym some)
value_bytes order format form.Data1 next w some = true_is_false (sym some)
value_bytes order format form.Strp next w some = true_is_false (sym some)
value_bytes order format form.Udata next w some = true_is_false (sym some)
value_bytes order format form.StrpSup next w some = true_is_false (sym some)
value_bytes order format form.Data16 next w some = true_is_false (sym some)
value_bytes order format form.LineStrp next w some = true_is_false (sym some)

-- ---- the forms by their numbers and lengths

pub number_no_bytes : (format : Format) (f : Form) (k : ℕ) → number_bytes_of format f ≡ Some k → has_bytes f ≡ false
number_no_bytes format form.Block2 k e = absurd (none_some {a = k} refl e)
number_no_bytes format form.Block4 k e = absurd (none_some {a = k} refl e)
number_no_bytes format form.Data2 k e = refl
number_no_bytes format form.Data4 k e = refl
number_no_bytes format form.Data8 k e = refl
number_no_bytes format form.String k e = absurd (none_some {a = k} refl e)
number_no_bytes format form.Block k e = absurd (none_some {a = k} refl e)
number_no_bytes format form.Block1 k e = absurd (none_some {a = k} refl e)
number_no_bytes format form.Data1 k e = refl
number_no_bytes format form.Strp k e = refl
number_no_bytes format form.Udata k e = refl
number_no_bytes format form.StrpSup k e = refl
number_no_bytes format form.Data16 k e = refl
number_no_bytes format form.LineStrp k e = refl

-- a block of this form is begun with its length, which has k bytes
pub begun_fixed : (f : Form) (k : ℕ) (w : List ℕ) → length_bytes_of f ≡ Some k
    → (has_bytes f ≡ true) × (begun_cells f w ≡ begun_block k w)
begun_fixed form.Block1 k w e = (refl, ap (λ (n : ℕ). begun_block n w) (some_same 1 k e))
begun_fixed form.Block2 k w e = (refl, ap (λ (n : ℕ). begun_block n w) (some_same 2 k e))
begun_fixed form.Block4 k w e = (refl, ap (λ (n : ℕ). begun_block n w) (some_same 4 k e))
begun_fixed form.Block k w e = absurd (none_some {a = k} refl e)
begun_fixed form.Data1 k w e = absurd (none_some {a = k} refl e)
begun_fixed form.Data2 k w e = absurd (none_some {a = k} refl e)
begun_fixed form.Data4 k w e = absurd (none_some {a = k} refl e)
begun_fixed form.Data8 k w e = absurd (none_some {a = k} refl e)
begun_fixed form.String k w e = absurd (none_some {a = k} refl e)
begun_fixed form.Strp k w e = absurd (none_some {a = k} refl e)
begun_fixed form.Udata k w e = absurd (none_some {a = k} refl e)
begun_fixed form.StrpSup k w e = absurd (none_some {a = k} refl e)
begun_fixed form.Data16 k w e = absurd (none_some {a = k} refl e)
begun_fixed form.LineStrp k w e = absurd (none_some {a = k} refl e)

-- the first bytes of a length are no cell
pub fixed_unbegun : (f : Form) (k : ℕ) (w : List ℕ) → length_bytes_of f ≡ Some k → length w < k → begun_cells f w ≡ 0
fixed_unbegun f k w e lt = (begun_fixed f k w e).1 ∙ rw (lt-leb k (length w) lt) refl

pub leb_unbegun : (f : Form) (u : Uleb) (w : List ℕ) → f ≡ form.Block → UlebTook u w → begun_cells f w ≡ 0
leb_unbegun f u w is took =
    let front : is_leb (leb_front w) ≡ false = ap is_leb (leb_front-continues w took.continue)
    ∙ is_leb-continues w took.continue in
    let none : begun_leb_block w ≡ 0 = rw front refl in
    ap (λ (g : Form). begun_cells g w) is ∙ none

pub leb_large_unbegun : (f : Form) (w : List ℕ) (e : LebRange) → f ≡ form.Block → UlebIs w (Err e) → begun_cells f w ≡ 0
leb_large_unbegun f w e is large =
    let t = (leb_tested w large.0).0 large.1 in
    let front : leb_front w ≡ w = leb_front-leb w t.0 in
    let number : is_leb (leb_front w) ≡ true = ap is_leb front ∙ t.0 in
    let le : 2 ^ 64 ≤ groups (leb_front w) = omega (arith, ap groups front, t.1, large.2) in
    let none : begun_leb_block w ≡ 0 = rw (number, le-ltb _ _ le) refl in
    ap (λ (g : Form). begun_cells g w) is ∙ none

begun_bytes : (order : Order) (k n : ℕ) (size bytes : List ℕ) → IsFixed order k n size
    → begun_block k (size ++ bytes) ≡ 1 + length bytes
begun_bytes order k n size bytes is =
    rw (le-leb k (length (size ++ bytes)) (omega (arith, is.0, length-append size bytes)))
    (omega (arith, is.0, length-append size bytes))

begun_leb_bytes : (n : ℕ) (size bytes : List ℕ) → IsUleb64 n size → begun_leb_block (size ++ bytes) ≡ 1 + length bytes
begun_leb_bytes n size bytes is =
    let t = (leb_tested size n).0 is.0 in
    let f = leb_is_front size bytes n is.0 in
    let number : is_leb (leb_front (size ++ bytes)) ≡ true = ap is_leb f.0 ∙ t.0 in
    let small : groups (leb_front (size ++ bytes)) < 2 ^ 64 = omega (arith, ap groups f.0, t.1, is.1) in
    rw (number, lt-ltb _ _ small) (ap (λ (l : List ℕ). 1 + length l) f.1)

by_fixed : (order : Order) (f : Form) (n : ℕ) (size bytes : List ℕ)
    → (k : ℕ) × (length_bytes_of f ≡ Some k) × IsFixed order k n size
    → (has_bytes f ≡ true) × (begun_cells f (size ++ bytes) ≡ 1 + length bytes)
by_fixed order f n size bytes is =
    let b = begun_fixed f is.0 (size ++ bytes) is.1 in
    (b.0, b.1 ∙ begun_bytes order is.0 n size bytes is.2)

-- the length of a block is one cell, and each byte after it
pub begun_with : (order : Order) (f : Form) (n : ℕ) (size bytes : List ℕ) → IsLengthOf order f n size
    → (has_bytes f ≡ true) × (begun_cells f (size ++ bytes) ≡ 1 + length bytes)
begun_with order form.Block n size bytes is = (refl, begun_leb_bytes n size bytes is)
begun_with order form.Block1 n size bytes is = by_fixed order form.Block1 n size bytes is
begun_with order form.Block2 n size bytes is = by_fixed order form.Block2 n size bytes is
begun_with order form.Block4 n size bytes is = by_fixed order form.Block4 n size bytes is
begun_with order form.Data1 n size bytes is = by_fixed order form.Data1 n size bytes is
begun_with order form.Data2 n size bytes is = by_fixed order form.Data2 n size bytes is
begun_with order form.Data4 n size bytes is = by_fixed order form.Data4 n size bytes is
begun_with order form.Data8 n size bytes is = by_fixed order form.Data8 n size bytes is
begun_with order form.String n size bytes is = by_fixed order form.String n size bytes is
begun_with order form.Strp n size bytes is = by_fixed order form.Strp n size bytes is
begun_with order form.Udata n size bytes is = by_fixed order form.Udata n size bytes is
begun_with order form.StrpSup n size bytes is = by_fixed order form.StrpSup n size bytes is
begun_with order form.Data16 n size bytes is = by_fixed order form.Data16 n size bytes is
begun_with order form.LineStrp n size bytes is = by_fixed order form.LineStrp n size bytes is
