-- The reader of a table in the pairs of its format.
use Rattle.std.proofs.Common.{◌≡◌, ℕ, ◌+◌, ◌-◌, ◌^◌, ◌<◌, ◌≤◌, ◌==◌, true, false, not, List, [], ◌∷◌}
use Rattle.std.proofs.Common.{◌++◌, length, Option, Some, None, Result, Ok, Err, refl, sym, ap, subst, ◌∙◌, arith}
use Rattle.std.proofs.Common.{length-append}
use Rattle.std.proofs.lemmas.Bool.{lt-ltb, le-ltb, ne_eqb}
use Rattle.dl_num.specs.declared.fixed.Order.{Order}
use Rattle.dl_num.specs.declared.leb.LebRange.{LebRange}
use Rattle.dl_num.specs.declared.leb.Uleb.{Uleb}
use Rattle.dl_num.specs.Leb.{IsUleb}
use Rattle.dl_num.specs.LebFront.{is_leb}
use Rattle.dl_num.specs.LebReader.{UlebTook, UlebIs, UlebAnswer}
use Rattle.dl_num.proofs.LebFrontLemmas.{is_leb-continues}
use Rattle.dl_num.proofs.LebLaws.{leb_tested}
use Rattle.dl_table.specs.declared.fault.FaultKind.{FaultKind}
use Rattle.dl_table.specs.declared.fault.FaultKind.TheVariants as fault
use Rattle.dl_table.specs.declared.form.Format.{Format}
use Rattle.dl_table.specs.declared.form.Form.{Form}
use Rattle.dl_table.specs.declared.form.Form.TheVariants as form
use Rattle.dl_table.specs.declared.table.Pair.{Pair}
use Rattle.dl_field.specs.declared.field_step.FieldStep.{FieldStep}
use Rattle.dl_field.specs.declared.field_step.FieldStep.TheVariants as byte_makes
use Rattle.dl_field.specs.declared.table_reader.TableReader.{TableReader}
use Rattle.dl_field.specs.declared.table_reader.TablePhase.{TablePhase}
use Rattle.dl_table.specs.TableData.{TableData}
use Rattle.dl_table.specs.Value.{good, bad, form_code, all_forms, form_of_code}
use Rattle.dl_field.specs.Layout.{NumberField, Layout, number_then, form_then, content_code, number_is, form_is}
use Rattle.dl_field.specs.Layout.{following, field_spelt, pairs_layout, table_layout, number_judged, sized_spelt}
use Rattle.dl_field.specs.Layout.{form_judged, objection, judged}
use Rattle.dl_field.specs.TablePlace.{after_pairs, pairs_left, form_left, NoValues, TableAt}
use Rattle.dl_field.specs.TableMoves.{SameTable, TableMade}
use Rattle.dl_field.specs.TableMoves.{BeginsPair, TakesContent, TakesForm}
use Rattle.dl_field.proofs.FieldLemmas.{fixed-one}
use Rattle.dl_field.proofs.FieldCells.{cells_good}
use Rattle.dl_field.proofs.FieldLaws.{form_has_code}

pub table_at : (order : Order) (t : TableReader) (p : TablePhase) (format : Format) (next : TableData → Layout)
    (layout : Layout) (rest : List ℕ) → t.phase ≡ p
    → TableAt order t t.phase format next layout rest → TableAt order t p format next layout rest
table_at order t p format next layout rest e at =
    subst (λ (q : TablePhase). TableAt order t q format next layout rest) e at

pub same_table : (t : TableReader) → SameTable t t
same_table t = record { phase = refl; pairs = refl; values = refl; pool = refl }

-- ---- numbers in LEB128

leb_open : (u : Uleb) (w : List ℕ) → UlebTook u w → is_leb w ≡ false
leb_open u w took = is_leb-continues w took.continue

-- a number that goes on is no field
pub number_open : (order : Order) (field : NumberField) (u : Uleb) (w : List ℕ) → UlebTook u w
    → number_judged field (sized_spelt order None w) ≡ None
number_open order field u w took = rw (leb_open u w took) refl

-- a number that is whole is judged by its value
pub number_whole : (order : Order) (field : NumberField) (w : List ℕ) (n : ℕ) → IsUleb w n
    → number_judged field (sized_spelt order None w) ≡ judged (objection field n) n
number_whole order field w n is = let t = (leb_tested w n).0 is in rw (t.0, t.1) refl

pub form_open : (order : Order) (next : Form → Layout) (u : Uleb) (w : List ℕ) → UlebTook u w
    → field_spelt order (form_then next) w ≡ None
form_open order next u w took = rw (leb_open u w took) refl

pub form_whole : (order : Order) (next : Form → Layout) (w : List ℕ) (n : ℕ) → IsUleb w n
    → field_spelt order (form_then next) w ≡ form_judged n (form_of_code n)
form_whole order next w n is = let t = (leb_tested w n).0 is in rw (t.0, t.1) refl

-- ---- a content code

pub content_within : (order : Order) (k : ℕ → Layout) (code : Uleb) (layout : Layout) (w : List ℕ)
    → layout ≡ number_then content_code k → UlebTook code w → field_spelt order layout w ≡ None
content_within order k code layout w is took = ap (λ (l : Layout). field_spelt order l w) is
    ∙ number_open order content_code code w took

pub content_good : (order : Order) (k : ℕ → Layout) (layout : Layout) (w : List ℕ) (n : ℕ)
    → layout ≡ number_then content_code k → IsUleb w n → n < 2 ^ 64
    → field_spelt order layout w ≡ good (number_is n)
content_good order k layout w n is spelt lt =
    ap (λ (l : Layout). field_spelt order l w) is ∙ number_whole order content_code w n spelt
    ∙ rw (lt-ltb n (2 ^ 64) lt) refl

pub content_bad : (order : Order) (k : ℕ → Layout) (layout : Layout) (w : List ℕ) (e : LebRange)
    → layout ≡ number_then content_code k → UlebIs w (Err e)
    → field_spelt order layout w ≡ bad fault.LebRange
content_bad order k layout w e is spelt =
    ap (λ (l : Layout). field_spelt order l w) is ∙ number_whole order content_code w spelt.0 spelt.1
    ∙ rw (le-ltb spelt.0 (2 ^ 64) spelt.2) refl

-- ---- a form code

pub form_within : (order : Order) (k : Form → Layout) (code : Uleb) (layout : Layout) (w : List ℕ)
    → layout ≡ form_then k → UlebTook code w → field_spelt order layout w ≡ None
form_within order k code layout w is took = ap (λ (l : Layout). field_spelt order l w) is
    ∙ form_open order k code w took

pub form_good : (order : Order) (k : Form → Layout) (layout : Layout) (w : List ℕ) (n : ℕ) (f : Form)
    → layout ≡ form_then k → IsUleb w n → form_of_code n ≡ Some f
    → field_spelt order layout w ≡ good (form_is f)
form_good order k layout w n f is spelt e =
    ap (λ (l : Layout). field_spelt order l w) is ∙ form_whole order k w n spelt
    ∙ ap (λ (o : Option Form). form_judged n o) e

pub form_unknown : (order : Order) (k : Form → Layout) (layout : Layout) (w : List ℕ) (n : ℕ) → layout ≡ form_then k
    → IsUleb w n → form_of_code n ≡ None → n < 2 ^ 64
    → field_spelt order layout w ≡ bad (fault.UnknownForm n)
form_unknown order k layout w n is spelt e lt =
    ap (λ (l : Layout). field_spelt order l w) is ∙ form_whole order k w n spelt
    ∙ ap (λ (o : Option Form). form_judged n o) e ∙ rw (lt-ltb n (2 ^ 64) lt) refl

small_code : (f : Form) → form_code f < 2 ^ 64
small_code form.Block2 = omega arith
small_code form.Block4 = omega arith
small_code form.Data2 = omega arith
small_code form.Data4 = omega arith
small_code form.Data8 = omega arith
small_code form.String = omega arith
small_code form.Block = omega arith
small_code form.Block1 = omega arith
small_code form.Data1 = omega arith
small_code form.Strp = omega arith
small_code form.Udata = omega arith
small_code form.StrpSup = omega arith
small_code form.Data16 = omega arith
small_code form.LineStrp = omega arith

too_large : (n : ℕ) (o : Option Form) → form_of_code n ≡ o → 2 ^ 64 ≤ n → form_judged n o ≡ bad fault.LebRange
too_large n None h le = rw (le-ltb n (2 ^ 64) le) refl
too_large n (Some f) h le = absurd (omega (arith, small_code f, form_has_code all_forms n f h))

pub form_range : (order : Order) (k : Form → Layout) (layout : Layout) (w : List ℕ) (e : LebRange)
    → layout ≡ form_then k → UlebIs w (Err e)
    → field_spelt order layout w ≡ bad fault.LebRange
form_range order k layout w e is spelt =
    ap (λ (l : Layout). field_spelt order l w) is ∙ form_whole order k w spelt.0 spelt.1
    ∙ too_large spelt.0 (form_of_code spelt.0) refl spelt.2

-- ---- by the answer of the reader of numbers

pub answered_none : (result : Option (Result ℕ LebRange)) (w : List ℕ) (new : Uleb) → result ≡ None
    → UlebAnswer w result new → UlebTook new w
answered_none result w new e a = let b : UlebAnswer w None new =
    subst (λ (o : Option (Result ℕ LebRange)). UlebAnswer w o new) e a in b

pub answered_ok : (result : Option (Result ℕ LebRange)) (w : List ℕ) (new : Uleb) (r : Result ℕ LebRange) (n : ℕ)
    → result ≡ Some r → r ≡ Ok n → UlebAnswer w result new → IsUleb w n
answered_ok result w new r n e f a =
    let b : UlebAnswer w (Some (Ok n)) new = subst (λ (o : Option (Result ℕ LebRange)). UlebAnswer w o new)
    (e ∙ ap (λ (s : Result ℕ LebRange). Some s) f) a in b.0

pub answered_err : (result : Option (Result ℕ LebRange)) (w : List ℕ) (new : Uleb) (r : Result ℕ LebRange)
    (x : LebRange) → result ≡ Some r → r ≡ Err x → UlebAnswer w result new → UlebIs w (Err x)
answered_err result w new r x e f a =
    let b : UlebAnswer w (Some (Err x)) new = subst (λ (o : Option (Result ℕ LebRange)). UlebAnswer w o new)
    (e ∙ ap (λ (s : Result ℕ LebRange). Some s) f) a in b.0

-- ---- by what the reader of tables does

pub content_made : (order : Order) (format : Format) (next : TableData → Layout) (old new : TableReader)
    (left content : ℕ) (result : FieldStep) (layout : Layout) (w : List ℕ)
    → layout ≡ number_then content_code (form_left format next left old.pairs.items) → NoValues old → 1 ≤ left
    → IsUleb w content → TakesContent old left content result new
    → TableMade order old format next layout w result new
content_made order format next old new left content result layout w is none some spelt takes =
    subst (λ (r : FieldStep). TableMade order old format next layout w r new) (sym takes.0) (
      number_is content,
      content_good order _ layout w content is spelt takes.1,
      subst (λ (l : Layout). TableAt order new new.phase format next l [])
          (sym (ap (λ (l : Layout). following l (number_is content)) is)) (takes.2 order format next none some),
    )

pub form_made : (order : Order) (format : Format) (next : TableData → Layout) (old new : TableReader)
    (left content code : ℕ) (result : FieldStep) (layout : Layout) (w : List ℕ)
    → layout ≡ form_left format next left old.pairs.items content → NoValues old → 1 ≤ left → IsUleb w code
    → TakesForm old left content code result new
    → TableMade order old format next layout w result new
form_made order format next old new left content code byte_makes.Ends layout w is none some spelt takes = (
  form_is takes.0,
  form_good order _ layout w code takes.0 is spelt takes.1,
  subst (λ (l : Layout). TableAt order new new.phase format next l [])
      (sym (ap (λ (l : Layout). following l (form_is takes.0)) is)) (takes.2 order format next none some),
)
form_made order format next old new left content code (byte_makes.Refuses kind) layout w is none some spelt takes =
    (form_unknown order _ layout w code is spelt takes.0 takes.1 ∙ ap (λ (k : FaultKind). bad k) (sym takes.2), takes.3)
form_made order format next old new left content code byte_makes.NoMemory layout w is none some spelt takes = (
  takes.0,
  omega (
    arith,
    cells_good order layout w (form_is takes.1.0)
        (form_good order _ layout w code takes.1.0 is spelt takes.1.1),
  ),
)
form_made order format next old new left content code byte_makes.Within layout w is none some spelt takes = absurd takes

-- ---- the count of the pairs

pub count_spelt : (order : Order) (format : Format) (next : TableData → Layout) (layout : Layout) (rest : List ℕ)
    (x : ℕ) → layout ≡ table_layout format next → rest ≡ []
    → field_spelt order layout (rest ++ x ∷ []) ≡ good (number_is x)
count_spelt order format next layout rest x is none =
    ap (λ (l : Layout). field_spelt order l (rest ++ x ∷ [])) is
    ∙ ap (λ (w : List ℕ). field_spelt order (table_layout format next) (w ++ x ∷ [])) none
    ∙ ap (λ (n : ℕ). good (number_is n)) (fixed-one order x)

pub counted : (order : Order) (new : TableReader) (count : ℕ) (p : TablePhase) (format : Format)
    (next : TableData → Layout) (layout : Layout) → new.pairs.items ≡ [] → NoValues new
    → layout ≡ table_layout format next
    → BeginsPair count p → TableAt order new p format next (following layout (number_is count)) []
counted order new count p format next layout pairs values is begins =
    let some : not (count == 0) ≡ not (count + length new.pairs.items == 0) =
    ap (λ (n : ℕ). not (n == 0)) (let s : count ≡ count + length new.pairs.items = omega (arith, ap length pairs) in
    s) in
    subst (λ (l : Layout). TableAt order new p format next l [])
    (ap (λ (ps : List Pair). pairs_layout count ps (after_pairs format next (not (count == 0)))) pairs
    ∙ sym (ap (λ (l : Layout). following l (number_is count)) is))
    (begins order new format next (not (count == 0)) values some)

-- a pair more, and those that are left
pub paired : (order : Order) (old new : TableReader) (left less : ℕ) (pair : Pair) (p : TablePhase) (format : Format)
    (next : TableData → Layout) → NoValues new → new.pairs.items ≡ old.pairs.items ++ pair ∷ [] → less ≡ left - 1
    → BeginsPair less p → TableAt order new p format next
    (pairs_left format next (left - 1) (old.pairs.items ++ pair ∷ [])) []
paired order old new left less pair p format next values pairs e begins =
    let some : true ≡ not (less + length new.pairs.items == 0) =
    sym (ap not (ne_eqb (less + length new.pairs.items) 0
    (λ z. omega (arith, z, ap length pairs, length-append old.pairs.items (pair ∷ []))))) in
    subst (λ (n : ℕ). TableAt order new p format next (pairs_left format next n (old.pairs.items ++ pair ∷ [])) []) e
    (subst (λ (ps : List Pair). TableAt order new p format next (pairs_left format next less ps) []) pairs
    (begins order new format next true values some))
