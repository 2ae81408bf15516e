-- What bytes are as a value, by what the reader of a table has read of it.
use Rattle.std.proofs.Common.{◌≡◌, ◌≢◌, ℕ, ◌-◌, ◌^◌, ◌<◌, ◌≤◌, false, ◌+◌, List, [], ◌∷◌, ◌++◌, length, take, drop}
use Rattle.std.proofs.Common.{Some, None, Err, refl, sym, ap, ◌∙◌, arith}
use Rattle.std.proofs.lemmas.Bool.{lt-ltb, le-ltb, ne_eqb, eq-eqb}
use Rattle.std.proofs.lemmas.List.{take_all, length-drop}
use Rattle.dl_num.specs.declared.fixed.Order.{Order}
use Rattle.dl_num.specs.declared.leb.LebRange.{LebRange}
use Rattle.dl_num.specs.declared.leb.Uleb.{Uleb}
use Rattle.dl_num.specs.Fixed.{fixed}
use Rattle.dl_num.specs.Leb.{groups, IsUleb}
use Rattle.dl_num.specs.LebReader.{UlebTook, UlebIs}
use Rattle.dl_num.proofs.LebFrontLemmas.{is_leb-continues}
use Rattle.dl_num.proofs.LebLaws.{leb_tested}
use Rattle.dl_table.specs.declared.fault.FaultKind.TheVariants as fault
use Rattle.dl_table.specs.declared.form.Format.{Format}
use Rattle.dl_table.specs.declared.form.Form.{Form}
use Rattle.dl_table.specs.declared.form.Form.TheVariants as form
use Rattle.dl_table.specs.declared.table.held.StoredValue.{StoredValue}
use Rattle.dl_field.specs.declared.field_step.FieldStep.{FieldStep}
use Rattle.dl_field.specs.declared.field_step.FieldStep.TheVariants as byte_makes
use Rattle.dl_field.specs.declared.table_reader.TableReader.{TableReader}
use Rattle.dl_field.specs.declared.value_phase.Cursor.{Cursor}
use Rattle.dl_field.specs.declared.value_phase.ValuePhase.{ValuePhase}
use Rattle.dl_table.specs.TableData.{TableData}
use Rattle.dl_table.specs.Held.{value_held, cells_held}
use Rattle.dl_field.specs.TableStep.{value_filled}
use Rattle.dl_field.specs.Field.{HasNoZero}
use Rattle.dl_table.specs.Value.{Value, text, number, data16, Judgement, good, bad, is_text, text_spelt, number_spelt}
use Rattle.dl_table.specs.Value.{leb_spelt, value_spelt}
use Rattle.dl_field.specs.Layout.{Layout, value_then, value_is, value_judged, field_spelt}
use Rattle.dl_field.specs.TablePlace.{number_bytes_of, number_value, InValue}
use Rattle.dl_field.specs.TableMoves.{TableMade, Enters}
use Rattle.dl_field.proofs.FieldLemmas.{none_some, some_same}
use Rattle.dl_field.proofs.FieldCells.{cells_good, some_cell}
use Rattle.dl_field.proofs.ValueLaws.{text_good}
use Rattle.dl_field.proofs.ValueLemmas.{at_value}

-- the field is a value of the pair's form
pub value_layout : (t : TableReader) (at : Cursor) (v : ValuePhase) (format : Format) (next : TableData → Layout)
    (layout : Layout) (rest : List ℕ) (is : InValue t at v format next layout rest)
    → (k : Value → Layout) × (layout ≡ value_then format is.pair.form k)
value_layout t at v format next layout rest is =
    (_, is.layout_is ∙ at_value format next t.pairs.items is.entries is.before at.left is.pair is.later is.at_pair)

pub value_field : (order : Order) (t : TableReader) (at : Cursor) (v : ValuePhase) (format : Format)
    (next : TableData → Layout) (layout : Layout) (rest w : List ℕ) (is : InValue t at v format next layout rest)
    → field_spelt order layout w ≡ value_judged (value_spelt order format is.pair.form w)
value_field order t at v format next layout rest w is =
    ap (λ (l : Layout). field_spelt order l w) (value_layout t at v format next layout rest is).1

-- a value is whole, and entered
pub value_made : (order : Order) (old new : TableReader) (at : Cursor) (v : ValuePhase) (h : StoredValue)
    (format : Format) (next : TableData → Layout) (layout : Layout) (rest w : List ℕ) (result : FieldStep)
    → (is : InValue old at v format next layout rest)
    → value_spelt order format is.pair.form w ≡ good (value_held old.pool.items h)
    → value_filled v (length old.pool.items) + cells_held h ≡ 1 + length old.pool.items
    → Enters old at h format result new
    → TableMade order old format next layout w result new
value_made order old new at v h format next layout rest w byte_makes.Ends is spelt full enters = (
  value_is (value_held old.pool.items h),
  value_field order old at v format next layout rest w is
      ∙ ap value_judged spelt,
  enters order next layout v rest is full,
)
value_made order old new at v h format next layout rest w byte_makes.NoMemory is spelt full enters =
    let u = value_held old.pool.items h in (
      enters,
      omega (
        arith,
        cells_good order layout w (value_is u)
            (value_field order old at v format next layout rest w is ∙ ap value_judged spelt),
        some_cell u,
      ),
    )
value_made order old new at v h format next layout rest w byte_makes.Within is spelt full enters = absurd enters
value_made order old new at v h format next layout rest w (byte_makes.Refuses kind) is spelt full enters = absurd enters

-- ---- numbers of fixed size

pub number_form : (order : Order) (format : Format) (f : Form) (k : ℕ) (w : List ℕ) → number_bytes_of format f ≡ Some k
    → value_spelt order format f w ≡ number_spelt order k (number_value f) w
number_form order format form.Data1 k w e = ap (λ (n : ℕ). number_spelt order n number w) (some_same 1 k e)
number_form order format form.Data2 k w e = ap (λ (n : ℕ). number_spelt order n number w) (some_same 2 k e)
number_form order format form.Data4 k w e = ap (λ (n : ℕ). number_spelt order n number w) (some_same 4 k e)
number_form order format form.Data8 k w e = ap (λ (n : ℕ). number_spelt order n number w) (some_same 8 k e)
number_form order format form.Strp k w e = ap (λ (n : ℕ). number_spelt order n (number_value form.Strp) w)
    (some_same _ k e)
number_form order format form.StrpSup k w e =
    ap (λ (n : ℕ). number_spelt order n (number_value form.StrpSup) w) (some_same _ k e)
number_form order format form.LineStrp k w e =
    ap (λ (n : ℕ). number_spelt order n (number_value form.LineStrp) w) (some_same _ k e)
number_form order format form.Block2 k w e = absurd (none_some {a = k} refl e)
number_form order format form.Block4 k w e = absurd (none_some {a = k} refl e)
number_form order format form.String k w e = absurd (none_some {a = k} refl e)
number_form order format form.Block k w e = absurd (none_some {a = k} refl e)
number_form order format form.Block1 k w e = absurd (none_some {a = k} refl e)
number_form order format form.Udata k w e = absurd (none_some {a = k} refl e)
number_form order format form.Data16 k w e = absurd (none_some {a = k} refl e)

pub number_short : (order : Order) (k : ℕ) (make : ℕ → Value) (w : List ℕ) → length w < k
    → number_spelt order k make w ≡ None
number_short order k make w lt = rw (ne_eqb (length w) k (λ same. omega arith)) refl

pub number_full : (order : Order) (k : ℕ) (make : ℕ → Value) (w : List ℕ) (n : ℕ) → length w ≡ k → n ≡ fixed order w
    → number_spelt order k make w ≡ good (make n)
number_full order k make w n size e = rw (eq-eqb (length w) k size, e) refl

pub held_spelt : (order : Order) (format : Format) (f g : Form) (k n : ℕ) (w pool : List ℕ) (h : StoredValue) → g ≡ f
    → number_bytes_of format f ≡ Some k → length w ≡ k → n ≡ fixed order w
    → value_held pool h ≡ number_value g n → value_spelt order format f w ≡ good (value_held pool h)
held_spelt order format f g k n w pool h same size full e held =
    number_form order format f k w size ∙ number_full order k (number_value f) w n full e
    ∙ ap (λ (v : Value). let o : Judgement Value = good v in o)
    (ap (λ (x : Form). number_value x n) (sym same) ∙ sym held)

pub sixteen_spelt : (order : Order) (format : Format) (f : Form) (w bytes pool : List ℕ) → f ≡ form.Data16 → bytes ≡ w
    → length bytes ≡ 16 → value_spelt order format f w ≡ good (data16 bytes)
sixteen_spelt order format f w bytes pool is same size =
    ap (λ (g : Form). value_spelt order format g w) is ∙ rw (← same, eq-eqb (length bytes) 16 size) refl

-- ---- numbers in LEB128

pub leb_goes_on : (u : Uleb) (w : List ℕ) → UlebTook u w → leb_spelt w ≡ None
leb_goes_on u w took = rw (is_leb-continues w took.continue) refl

pub leb_whole : (w : List ℕ) (n : ℕ) → IsUleb w n → n < 2 ^ 64 → leb_spelt w ≡ good (number n)
leb_whole w n is lt = let t = (leb_tested w n).0 is in let l : groups w < 2 ^ 64 = omega (arith, t.1, lt) in
    rw (t.0, lt-ltb _ _ l, t.1) refl

pub leb_too_large : (w : List ℕ) (e : LebRange) → UlebIs w (Err e) → leb_spelt w ≡ bad fault.LebRange
leb_too_large w e is = let t = (leb_tested w is.0).0 is.1 in let l : 2 ^ 64 ≤ groups w = omega (arith, t.1, is.2) in
    rw (t.0, le-ltb _ _ l) refl

pub leb_form : (order : Order) (format : Format) (f : Form) (w : List ℕ) (o : Judgement Value) → f ≡ form.Udata
    → leb_spelt w ≡ o → value_spelt order format f w ≡ o
leb_form order format f w o is e = ap (λ (g : Form). value_spelt order format g w) is ∙ e

pub leb_held : (w : List ℕ) (n : ℕ) (v : Value) → IsUleb w n → n < 2 ^ 64 → v ≡ number n → leb_spelt w ≡ good v
leb_held w n v is lt e = leb_whole w n is lt ∙ ap (λ (u : Value). let o : Judgement Value = good u in o) (sym e)

-- ---- texts

pub text_form : (order : Order) (format : Format) (f : Form) (w : List ℕ) (o : Judgement Value) → f ≡ form.String
    → text_spelt w ≡ o → value_spelt order format f w ≡ o
text_form order format f w o is e = ap (λ (g : Form). value_spelt order format g w) is ∙ e

no_text : (w : List ℕ) → HasNoZero w → is_text w ≡ false
no_text [] h = refl
no_text (b ∷ []) h = ne_eqb b 0 h.0
no_text (b ∷ c ∷ w) h = rw (ne_eqb b 0 h.0) (no_text (c ∷ w) h.1)

pub text_goes_on : (w : List ℕ) → HasNoZero w → text_spelt w ≡ None
text_goes_on w h = rw (no_text w h) refl

pub no_zero-push : (w : List ℕ) (b : ℕ) → HasNoZero w → b ≢ 0 → HasNoZero (w ++ b ∷ [])
no_zero-push [] b h other = (other, tt)
no_zero-push (c ∷ w) b h other = (h.0, no_zero-push w b h.1 other)

pub text_whole : (w : List ℕ) (b : ℕ) → HasNoZero w → b ≡ 0 → text_spelt (w ++ b ∷ []) ≡ good (text w)
text_whole w b h same = text_good (w ++ b ∷ []) (text w) (w, refl, (ap (λ (x : ℕ). w ++ x ∷ []) same, h))

pub text_held : (w : List ℕ) (b : ℕ) (pool : List ℕ) (start len : ℕ) → HasNoZero w → b ≡ 0 → drop start pool ≡ w
    → len ≡ length pool - start
    → text_spelt (w ++ b ∷ []) ≡ good (text (take len (drop start pool)))
text_held w b pool start len h same is size =
    let all : take len (drop start pool) ≡ w = take_all len (drop start pool)
    (omega (arith, size, length-drop start pool)) ∙ is in
    text_whole w b h same ∙ ap (λ (l : List ℕ). let o : Judgement Value = good (text l) in o) (sym all)
