-- A byte of a header before its tables, or of its padding: it adds no cell.
use Rattle.std.proofs.Common.{◌≡◌, ℕ, ◌-◌, Bool, true, false, List, [], ◌∷◌, ◌++◌, length, Some, None, Ok, Err, refl}
use Rattle.std.proofs.Common.{ap, ◌∙◌, arith}
use Rattle.dl_num.specs.declared.fixed.Order.{Order}
use Rattle.dl_head.specs.declared.dialect.Dialect.{Dialect}
use Rattle.dl_table.specs.declared.form.Format.{Format}
use Rattle.dl_field.specs.Layout.{path_or_end, Layout, initial_length_then, number_then, form_then, value_then}
use Rattle.dl_field.specs.Layout.{foreign_version, last_entry, Item, following_all, field_spelt, initial_length_spelt}
use Rattle.dl_head.specs.declared.reader.byte_field.ByteField.{ByteField}
use Rattle.dl_head.specs.declared.reader.HeadReader.{HeadReader}
use Rattle.dl_head.specs.declared.reader.Phase.TheVariants as phase
use Rattle.dl_field.specs.declared.field_step.FieldStep.{FieldStep}
use Rattle.dl_field.specs.declared.field_step.FieldStep.TheVariants as byte_makes
use Rattle.dl_table.specs.Value.{Judgement}
use Rattle.dl_field.specs.Cells.{item_cells, rest_cells}
use Rattle.dl_head.specs.HeaderLayout.{header_layout}
use Rattle.dl_field.specs.TablePlace.{field_cells}
use Rattle.dl_field.specs.TableMoves.{Adds}
use Rattle.dl_head.specs.Place.{from_byte, At, AtPhase, held_cells, Made, BytesMade, Follows, PushFollows}
use Rattle.dl_head.proofs.FirstFields.{is_length}
use Rattle.dl_field.proofs.FieldCells.{cells_good, cells_open, cells_bad, number_cells}
use Rattle.dl_head.proofs.OneFieldMore.{byte_number, byte_follows, lengths_open, some_left}

-- whether the first field of the layout is no cell, and none of its bytes
abbrev pub is_no_cell : Layout → Bool
is_no_cell (form_then next) = false
is_no_cell (value_then format f next) = false
is_no_cell (path_or_end format pairs entries next) = false
is_no_cell layout = true

false_is_true : {A : Type 0} → false ≡ true → A
false_is_true e = absurd cc

length_cells : (order : Order) (next : Format → ℕ → Layout) (w : List ℕ) (o : Judgement Item)
    → field_spelt order (initial_length_then next) w ≡ o → field_cells order (initial_length_then next) w ≡ 0
length_cells order next w None e = cells_open order (initial_length_then next) w e
length_cells order next w (Some (Err kind)) e = cells_bad order (initial_length_then next) w kind e
length_cells order next w (Some (Ok i)) e = cells_good order (initial_length_then next) w i e
    ∙ ap item_cells (is_length order w i e).item

no_cells : (order : Order) (layout : Layout) (rest w : List ℕ) → is_no_cell layout ≡ true
    → field_cells order layout w ≡ rest_cells layout rest
no_cells order (initial_length_then next) rest w e = length_cells order next w (initial_length_spelt order w) refl
no_cells order (number_then field next) rest w e = number_cells order field next w
no_cells order (form_then next) rest w e = false_is_true e
no_cells order (value_then format f next) rest w e = false_is_true e
no_cells order (path_or_end format pairs entries next) rest w e = false_is_true e
no_cells order (foreign_version v) rest w e = refl
no_cells order (last_entry h) rest w e = refl

-- ---- by the phase

abbrev pub NoCell : Dialect → List Item → Type 0
NoCell dialect items = is_no_cell (following_all (header_layout dialect) items) ≡ true

pub layout_no_cell : (dialect : Dialect) (items : List Item) (layout : Layout)
    → following_all (header_layout dialect) items ≡ layout → is_no_cell layout ≡ true → NoCell dialect items
layout_no_cell dialect items layout e none = ap is_no_cell e ∙ none

pub field_no_cell : (r : HeadReader) (f : ByteField) (items : List Item) (rest : List ℕ)
    → AtPhase r (phase.Byte f) items rest → NoCell r.dialect items
field_no_cell r f items rest at = layout_no_cell r.dialect items (from_byte f r.unit_length r.params)
    (byte_follows r f items rest at).0 (ap is_no_cell (byte_number f r.unit_length r.params).1)

pub length_no_cell : (r : HeadReader) (items : List Item) (rest : List ℕ) → r.phase ≡ phase.OpcodeLength
    → AtPhase r phase.OpcodeLength items rest → NoCell r.dialect items
length_no_cell r items rest e at =
    let p = r.params in
    layout_no_cell r.dialect items _ (at.0.tail.follows ∙ lengths_open p (p.opcode_base - 1 - length p.lengths.items)
    p.lengths.items (some_left r e)) refl

-- ---- what the byte makes

byte_made : (old new : HeadReader) (items : List Item) (rest : List ℕ) (byte : ℕ) (result : FieldStep)
    → Made old.dialect items (rest ++ byte ∷ []) result new → BytesMade old items rest (byte ∷ []) result new
byte_made old new items rest byte byte_makes.Within made = made
byte_made old new items rest byte byte_makes.Ends made = made
byte_made old new items rest byte (byte_makes.Refuses kind) made = made
byte_made old new items rest byte byte_makes.NoMemory made = absurd made

adds_nothing : (old new : HeadReader) (items : List Item) (rest w : List ℕ) (result : FieldStep)
    → Made old.dialect items w result new → field_cells old.dialect.order
    (following_all (header_layout old.dialect) items) w
    ≡ rest_cells (following_all (header_layout old.dialect) items) rest
    → held_cells new ≡ held_cells old → Adds old.dialect.order
    (following_all (header_layout old.dialect) items) rest w result
    (held_cells old) (held_cells new)
adds_nothing old new items rest w byte_makes.Within made same kept = omega (arith, same, kept)
adds_nothing old new items rest w byte_makes.Ends made same kept = omega (arith, same, kept)
adds_nothing old new items rest w (byte_makes.Refuses kind) made same kept = omega (arith, same, kept)
adds_nothing old new items rest w byte_makes.NoMemory made same kept = absurd made

-- a field that is no cell
pub field_pushed : {old new : HeadReader} {byte : ℕ} {result : FieldStep} → Follows old byte result new
    → held_cells new ≡ held_cells old
    → ((items : List Item) (rest : List ℕ) → At old items rest → NoCell old.dialect items)
    → PushFollows old byte result new
field_pushed {old} {new} {byte} {result} follows kept none = record {
  made = λ items rest at. byte_made old new items rest byte result (follows.made items rest at);
  cells = λ items rest at.
      adds_nothing old new items rest (rest ++ byte ∷ []) result (follows.made items rest at)
      (no_cells old.dialect.order (following_all (header_layout old.dialect) items) rest (rest ++ byte ∷ [])
      (none items rest at)) kept;
  counts = follows.counts;
}
