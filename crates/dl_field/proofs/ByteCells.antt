-- How many cells a byte of a table adds.
use Rattle.std.proofs.Common.{◌≡◌, ℕ, ◌+◌, false, true, List, [], ◌∷◌, ◌++◌, length, sym, ap, ◌∙◌, arith, length-append}
use Rattle.std.proofs.Common.{append-nil}
use Rattle.dl_num.specs.declared.fixed.Order.{Order}
use Rattle.dl_table.specs.declared.form.Format.{Format}
use Rattle.dl_table.specs.declared.form.Form.{Form}
use Rattle.dl_table.specs.declared.form.Form.TheVariants as form
use Rattle.dl_field.specs.declared.field_step.FieldStep.{FieldStep}
use Rattle.dl_field.specs.declared.field_step.FieldStep.TheVariants as byte_makes
use Rattle.dl_field.specs.declared.table_reader.TableReader.{TableReader}
use Rattle.dl_field.specs.declared.value_phase.Cursor.{Cursor}
use Rattle.dl_field.specs.declared.value_phase.ValuePhase.{ValuePhase}
use Rattle.dl_table.specs.TableData.{TableData}
use Rattle.dl_table.specs.Value.{Value, good}
use Rattle.dl_field.specs.Cells.{item_cells, begun_cells, rest_cells}
use Rattle.dl_field.specs.Layout.{NumberField, Layout, number_then, form_then, value_then, Item, field_spelt}
use Rattle.dl_field.specs.TablePlace.{reader_cells, field_cells}
use Rattle.dl_field.specs.TableMoves.{has_bytes, Adds, KeepsCells, OneCell, EachCell}
use Rattle.dl_field.specs.TablePlace.{IsLengthOf, InValue, InBlock}
use Rattle.dl_field.specs.TableMoves.{TableMade}
use Rattle.dl_field.proofs.FieldCells.{cells_good, cells_open, cells_bad, number_cells, form_cell, no_bytes}
use Rattle.dl_field.proofs.FieldCells.{value_item_cell, value_bytes, begun_with}
use Rattle.dl_field.proofs.BlockLemmas.{one_more}
use Rattle.dl_field.proofs.ValueLemmas.{at_value}
use Rattle.dl_field.proofs.ValueFields.{value_layout}

-- ---- by how many cells the field is

pub adds_none : (order : Order) (old new : TableReader) (layout : Layout) (rest w : List ℕ) (result : FieldStep)
    → field_cells order layout w ≡ rest_cells layout rest → KeepsCells old result new
    → Adds order layout rest w result (reader_cells old) (reader_cells new)
adds_none order old new layout rest w byte_makes.Within same kept = omega (arith, same, kept)
adds_none order old new layout rest w byte_makes.Ends same kept = omega (arith, same, kept)
adds_none order old new layout rest w (byte_makes.Refuses kind) same kept = omega (arith, same, kept)
adds_none order old new layout rest w byte_makes.NoMemory same kept = absurd kept

pub adds_one : (order : Order) (old new : TableReader) (layout : Layout) (rest w : List ℕ) (result : FieldStep)
    → field_cells order layout w ≡ rest_cells layout rest + 1 → EachCell old result new
    → Adds order layout rest w result (reader_cells old) (reader_cells new)
adds_one order old new layout rest w byte_makes.Within more grown = omega (arith, more, grown)
adds_one order old new layout rest w byte_makes.Ends more grown = omega (arith, more, grown)
adds_one order old new layout rest w (byte_makes.Refuses kind) more grown = absurd grown
adds_one order old new layout rest w byte_makes.NoMemory more grown = (grown, omega (arith, more))

-- a field that is one cell, once it is whole
adds_whole : (order : Order) (old new : TableReader) (format : Format) (next : TableData → Layout) (layout : Layout)
    (rest w : List ℕ) (result : FieldStep) → ((x : List ℕ) → rest_cells layout x ≡ 0)
    → ((i : Item) → field_spelt order layout w ≡ good i → item_cells i ≡ 1)
    → TableMade order old format next layout w result new → OneCell old result new
    → Adds order layout rest w result (reader_cells old) (reader_cells new)
adds_whole order old new format next layout rest w byte_makes.Within none one made grown =
    omega (arith, none rest, none w, cells_open order layout w made.0, grown)
adds_whole order old new format next layout rest w byte_makes.Ends none one made grown =
    omega (arith, none rest, cells_good order layout w made.0 made.1, one made.0 made.1, grown)
adds_whole order old new format next layout rest w (byte_makes.Refuses kind) none one made grown =
    omega (arith, none rest, none w, cells_bad order layout w kind made.0, grown)
adds_whole order old new format next layout rest w byte_makes.NoMemory none one made grown =
    (grown, omega (arith, none rest, made.1))

-- ---- by the field

pub adds_number : (order : Order) (old new : TableReader) (field : NumberField) (k : ℕ → Layout) (layout : Layout)
    (rest w : List ℕ) (result : FieldStep) → layout ≡ number_then field k → KeepsCells old result new
    → Adds order layout rest w result (reader_cells old) (reader_cells new)
adds_number order old new field k layout rest w result is kept =
    adds_none order old new layout rest w result
    (ap (λ (l : Layout). field_cells order l w) is ∙ number_cells order field k w
    ∙ sym (ap (λ (l : Layout). rest_cells l rest) is)) kept

pub adds_form : (order : Order) (old new : TableReader) (format : Format) (next : TableData → Layout)
    (k : Form → Layout) (layout : Layout) (rest w : List ℕ) (result : FieldStep) → layout ≡ form_then k
    → TableMade order old format next layout w result new → OneCell old result new
    → Adds order layout rest w result (reader_cells old) (reader_cells new)
adds_form order old new format next k layout rest w result is =
    adds_whole order old new format next layout rest w result (λ x. ap (λ (l : Layout). rest_cells l x) is)
    (λ i e. form_cell order k w i (sym (ap (λ (l : Layout). field_spelt order l w) is) ∙ e))

pub adds_value : (order : Order) (old new : TableReader) (at : Cursor) (v : ValuePhase) (format : Format)
    (next : TableData → Layout) (layout : Layout) (rest w : List ℕ) (result : FieldStep)
    → (is : InValue old at v format next layout rest) → has_bytes is.pair.form ≡ false
    → TableMade order old format next layout w result new → OneCell old result new
    → Adds order layout rest w result (reader_cells old) (reader_cells new)
adds_value order old new at v format next layout rest w result is none =
    let l = value_layout old at v format next layout rest is in
    adds_whole order old new format next layout rest w result
    (λ x. ap (λ (m : Layout). rest_cells m x) l.1 ∙ no_bytes is.pair.form x none)
    (λ i e. value_item_cell order format is.pair.form l.0 w i none
    (sym (ap (λ (m : Layout). field_spelt order m w) l.1) ∙ e))

-- the cells of a field whose bytes are cells
pub bytes_field : (order : Order) (format : Format) (f : Form) (k : Value → Layout) (layout : Layout) (rest w : List ℕ)
    (n : ℕ) → layout ≡ value_then format f k → has_bytes f ≡ true
    → begun_cells f w ≡ begun_cells f rest + n → field_cells order layout w ≡ rest_cells layout rest + n
bytes_field order format f k layout rest w n is some more =
    ap (λ (l : Layout). field_cells order l w) is ∙ value_bytes order format f k w some ∙ more
    ∙ sym (ap (λ (l : Layout). rest_cells l rest + n) is)

-- more bytes of a text
pub text_field : (order : Order) (t : TableReader) (at : Cursor) (v : ValuePhase) (format : Format)
    (next : TableData → Layout) (layout : Layout) (rest more : List ℕ)
    → (is : InValue t at v format next layout rest) → is.pair.form ≡ form.String
    → field_cells order layout (rest ++ more) ≡ rest_cells layout rest + length more
text_field order t at v format next layout rest more is f =
    let l = value_layout t at v format next layout rest is in
    let w = rest ++ more in
    bytes_field order format is.pair.form l.0 layout rest w (length more) l.1 (ap has_bytes f)
    (ap (λ (g : Form). begun_cells g w) f ∙ length-append rest more
    ∙ sym (ap (λ (g : Form). begun_cells g rest + length more) f))

-- the last byte of the length of a block
pub length_field : (order : Order) (t : TableReader) (at : Cursor) (v : ValuePhase) (size : ℕ) (format : Format)
    (next : TableData → Layout) (layout : Layout) (rest w : List ℕ)
    → (is : InValue t at v format next layout rest) → IsLengthOf order is.pair.form size w
    → begun_cells is.pair.form rest ≡ 0 → field_cells order layout w ≡ rest_cells layout rest + 1
length_field order t at v size format next layout rest w is spelt none =
    let l = value_layout t at v format next layout rest is in
    let b = begun_with order is.pair.form size w [] spelt in
    bytes_field order format is.pair.form l.0 layout rest w 1 l.1 b.0
    (ap (begun_cells is.pair.form) (sym (append-nil w)) ∙ b.1 ∙ sym (ap (λ (n : ℕ). n + 1) none))

-- one before it
pub open_field : (order : Order) (t : TableReader) (at : Cursor) (v : ValuePhase) (format : Format)
    (next : TableData → Layout) (layout : Layout) (rest w : List ℕ)
    → (is : InValue t at v format next layout rest) → has_bytes is.pair.form ≡ true → begun_cells is.pair.form rest ≡ 0
    → begun_cells is.pair.form w ≡ 0 → field_cells order layout w ≡ rest_cells layout rest
open_field order t at v format next layout rest w is some none still =
    let l = value_layout t at v format next layout rest is in
    ap (λ (m : Layout). field_cells order m w) l.1 ∙ value_bytes order format is.pair.form l.0 w some ∙ still ∙ sym none
    ∙ sym (ap (λ (m : Layout). rest_cells m rest) l.1)

-- what follows the bytes of a block so far
pub block_layout : (order : Order) (t : TableReader) (at : Cursor) (left : ℕ) (format : Format)
    (next : TableData → Layout) (layout : Layout) (rest : List ℕ) (is : InBlock order t at left format next layout rest)
    → (k : Value → Layout) × (layout ≡ value_then format is.pair.form k)
block_layout order t at left format next layout rest is =
    (_, is.layout_is ∙ at_value format next t.pairs.items is.entries is.before at.left is.pair is.later is.at_pair)

-- a byte more of a block
pub block_field : (order : Order) (t : TableReader) (at : Cursor) (left : ℕ) (format : Format)
    (next : TableData → Layout) (layout : Layout) (rest : List ℕ) (byte : ℕ)
    → InBlock order t at left format next layout rest
    → field_cells order layout (rest ++ byte ∷ []) ≡ rest_cells layout rest + 1
block_field order t at left format next layout rest byte is =
    let f = is.pair.form in
    let l = block_layout order t at left format next layout rest is in
    let before = begun_with order f (length is.bytes + left) is.size is.bytes is.length_is in
    let after = begun_with order f (length is.bytes + left) is.size (is.bytes ++ byte ∷ []) is.length_is in
    bytes_field order format f l.0 layout rest (rest ++ byte ∷ []) 1 l.1 before.0
    (ap (begun_cells f) (one_more rest is.size is.bytes byte is.rest_is) ∙ after.1
    ∙ omega (arith, length-append is.bytes (byte ∷ []), before.1, ap (begun_cells f) is.rest_is))
