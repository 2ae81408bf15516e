-- What a byte, or a value, makes of the reader of a table. No promise rests on how this is said.
use Rattle.std.specs.Prelude.{◌≡◌, ℕ, ◌+◌, ◌-◌, ◌^◌, ◌<◌, ◌≤◌, Bool, true, false, not, ◌==◌, List, [], ◌∷◌, ◌++◌}
use Rattle.std.specs.Prelude.{length, Some, None, Option, ◌⊎◌, Result}
use Rattle.dl_num.specs.declared.fixed.Order.{Order}
use Rattle.dl_num.specs.LebReader.{UlebIs, UlebTook}
use Rattle.dl_num.specs.declared.leb.LebRange.{LebRange}
use Rattle.dl_num.specs.declared.leb.Uleb.{Uleb}
use Rattle.dl_table.specs.declared.fault.FaultKind.TheVariants as fault
use Rattle.dl_table.specs.declared.form.Format.{Format}
use Rattle.dl_table.specs.declared.form.Form.{Form}
use Rattle.dl_table.specs.declared.form.Form.TheVariants as form
use Rattle.dl_table.specs.declared.table.held.StoredValue.{StoredValue}
use Rattle.dl_field.specs.declared.value_phase.Cursor.{Cursor}
use Rattle.dl_field.specs.declared.value_phase.ValuePhase.{ValuePhase}
use Rattle.dl_table.specs.declared.table.Pair.{Pair}
use Rattle.dl_field.specs.declared.field_step.FieldStep.{FieldStep}
use Rattle.dl_field.specs.declared.field_step.FieldStep.TheVariants as byte_makes
use Rattle.dl_field.specs.declared.table_reader.TableReader.{TableReader}
use Rattle.dl_field.specs.declared.table_reader.TablePhase.{TablePhase}
use Rattle.dl_field.specs.declared.table_reader.TablePhase.TheVariants as phase
use Rattle.dl_table.specs.TableData.{TableData}
use Rattle.dl_table.specs.TableCells.{table_cells}
use Rattle.dl_table.specs.Held.{value_held, held_end, cells_held, table_of}
use Rattle.dl_table.specs.Held.{IsWhole as AreRows}
use Rattle.dl_table.specs.Sound.{IsSoundTable}
use Rattle.dl_field.specs.TableStep.{value_due, value_filled}
use Rattle.dl_field.specs.Cells.{begun_cells, rest_cells}
use Rattle.dl_field.specs.Field.{IsUleb64}
use Rattle.dl_table.specs.Value.{Value, block, good, bad, form_of_code}
use Rattle.dl_table.specs.Value.{value_spelt}
use Rattle.dl_field.specs.Layout.{Layout, Item, value_is, following}
use Rattle.dl_field.specs.Layout.{field_spelt, pairs_layout}
use Rattle.dl_field.specs.TablePlace.{IsFresh, reader_cells, field_cells, after_pairs, pairs_left, form_left}
use Rattle.dl_field.specs.TablePlace.{NoValues, IsLengthOf, ValueAt, Holds, Summed, values_left, InValue, IsWhole}
use Rattle.dl_field.specs.TablePlace.{TableAt}
use Rattle.dl_field.specs.FieldRuns.{TakesFields}

-- the last byte of w, after rest, adds to the cells before what it adds to those of the field; memory is refused only
-- where that is some
abbrev pub Adds : Order → Layout → List ℕ → List ℕ → FieldStep → ℕ → ℕ → Type 0
Adds order layout rest w byte_makes.NoMemory before after = (after ≡ before)
    × (rest_cells layout rest < field_cells order layout w)
Adds order layout rest w result before after = after + rest_cells layout rest ≡ before + field_cells order layout w

-- a byte of a number that is no cell
abbrev pub KeepsCells : TableReader → FieldStep → TableReader → Type 0
KeepsCells old byte_makes.NoMemory new = ⊥
KeepsCells old result new = reader_cells new ≡ reader_cells old

-- a byte of a field that is one cell, once it is whole
abbrev pub OneCell : TableReader → FieldStep → TableReader → Type 0
OneCell old byte_makes.Ends new = reader_cells new ≡ reader_cells old + 1
OneCell old result new = reader_cells new ≡ reader_cells old

-- a byte that is a cell
abbrev pub EachCell : TableReader → FieldStep → TableReader → Type 0
EachCell old byte_makes.NoMemory new = reader_cells new ≡ reader_cells old
EachCell old (byte_makes.Refuses kind) new = ⊥
EachCell old result new = reader_cells new ≡ reader_cells old + 1

-- the phase and what is held are as they were
pub record SameTable (old new : TableReader) : Type 0 where
  pub phase : new.phase ≡ old.phase
  pub pairs : new.pairs.items ≡ old.pairs.items
  pub values : new.values.items ≡ old.values.items
  pub pool : new.pool.items ≡ old.pool.items

-- what the byte makes of the field that ends with w
abbrev pub TableMade : Order → TableReader → Format → (TableData → Layout) → Layout → List ℕ → FieldStep → TableReader
    → Type 0
TableMade order old format next layout w byte_makes.Within new = (field_spelt order layout w ≡ None)
    × TableAt order new new.phase format next layout w
TableMade order old format next layout w byte_makes.Ends new = (i : Item) × (field_spelt order layout w ≡ good i)
    × TableAt order new new.phase format next (following layout i) []
TableMade order old format next layout w (byte_makes.Refuses kind) new = (field_spelt order layout w ≡ bad kind)
    × SameTable old new
TableMade order old format next layout w byte_makes.NoMemory new = SameTable old new × (1 ≤ field_cells order layout w)

-- a byte of the count of the pairs or of a pair
abbrev pub TableFollows : TableReader → ℕ → FieldStep → TableReader → Type 0
TableFollows old byte result new =
    (order : Order) (format : Format) (next : TableData → Layout) (layout : Layout) (rest : List ℕ)
    → TableAt order old old.phase format next layout rest
    → TableMade order old format next layout (rest ++ byte ∷ []) result new

-- `of_pairs`: `left` pairs are left, or the count of the entries follows
abbrev pub BeginsPair : ℕ → TablePhase → Type 0
BeginsPair left p =
    (order : Order) (t : TableReader) (format : Format) (next : TableData → Layout) (some : Bool) → NoValues t
    → some ≡ not (left + length t.pairs.items == 0)
    → TableAt order t p format next (pairs_layout left t.pairs.items (after_pairs format next some)) []

-- `take_content`: the form code of the pair follows
abbrev pub TakesContent : TableReader → ℕ → ℕ → FieldStep → TableReader → Type 0
TakesContent old left content result new =
    (result ≡ byte_makes.Ends) × (content < 2 ^ 64)
    × ((order : Order) (format : Format) (next : TableData → Layout) → NoValues old → 1 ≤ left
    → TableAt order new new.phase format next (form_left format next left old.pairs.items content) [])

-- `take_form`: the pair is entered, or its code is none of a form, or memory was refused
abbrev pub TakesForm : TableReader → ℕ → ℕ → ℕ → FieldStep → TableReader → Type 0
TakesForm old left content code byte_makes.Ends new =
    (f : Form) × (form_of_code code ≡ Some f)
    × ((order : Order) (format : Format) (next : TableData → Layout) → NoValues old → 1 ≤ left
    → TableAt order new new.phase format next
    (pairs_left format next (left - 1) (old.pairs.items ++ record { content = content; form = f } ∷ [])) [])
TakesForm old left content code (byte_makes.Refuses kind) new = (form_of_code code ≡ None) × (code < 2 ^ 64)
    × (kind ≡ fault.UnknownForm code) × SameTable old new
TakesForm old left content code byte_makes.NoMemory new = SameTable old new
    × ((f : Form) × (form_of_code code ≡ Some f))
TakesForm old left content code byte_makes.Within new = ⊥

-- `Cursor::next`: the place of the value after this one, where an entry has `width`
abbrev pub Moves : Cursor → ℕ → Option Cursor → Type 0
Moves old width None = (width ≤ old.column + 1) × (old.left ≤ 1)
Moves old width (Some new) =
    ((old.column + 1 < width) × (new.column ≡ old.column + 1) × (new.left ≡ old.left))
    ⊎ ((width ≤ old.column + 1) × (2 ≤ old.left) × (new.column ≡ 0) × (new.left ≡ old.left - 1))

-- `begin_value`, `end_value`: the values before the place are complete
abbrev pub GoesOn : List Pair → List ℕ → List StoredValue → ℕ → ℕ → Format → TableReader → Type 0
GoesOn pairs pool values column left format new =
    (order : Order) (next : TableData → Layout) (layout : Layout) (entries : List (List Value)) (before : List Value)
    → Holds pairs pool values entries before → Summed values (length pool) → length before ≡ column
    → layout ≡ values_left format next pairs entries before left
    → TableAt order new new.phase format next layout []

-- `enter`: the value is complete, or memory was refused
abbrev pub Enters : TableReader → Cursor → StoredValue → Format → FieldStep → TableReader → Type 0
Enters old at h format byte_makes.Ends new =
    (order : Order) (next : TableData → Layout) (layout : Layout) (v : ValuePhase) (rest : List ℕ)
    → InValue old at v format next layout rest
    → value_filled v (length old.pool.items) + cells_held h ≡ 1 + length old.pool.items
    → TableAt order new new.phase format next (following layout (value_is (value_held old.pool.items h))) []
Enters old at h format byte_makes.NoMemory new = SameTable old new
Enters old at h format result new = ⊥

-- `enter_front`: the value is complete
abbrev pub EntersAt : TableReader → Cursor → StoredValue → Format → TableReader → Type 0
EntersAt old at h format new = Enters old at h format byte_makes.Ends new × OneCell old byte_makes.Ends new

-- `begin_block`: a block of this size, whose length is read; its bytes follow, or it is complete, or memory was refused
abbrev pub BeginsBlock : TableReader → Cursor → ℕ → Format → FieldStep → TableReader → Type 0
BeginsBlock old at size format byte_makes.Within new =
    (1 ≤ size) × ((order : Order) (next : TableData → Layout) (layout : Layout) (v : ValuePhase) (rest : List ℕ)
    (w : List ℕ) → (is : InValue old at v format next layout rest)
    → value_filled v (length old.pool.items) ≡ length old.pool.items → IsLengthOf order is.pair.form size w
    → TableAt order new new.phase format next layout w)
BeginsBlock old at size format byte_makes.Ends new =
    (size ≡ 0) × ((order : Order) (next : TableData → Layout) (layout : Layout) (v : ValuePhase) (rest : List ℕ)
    → InValue old at v format next layout rest
    → value_filled v (length old.pool.items) ≡ length old.pool.items
    → TableAt order new new.phase format next (following layout (value_is (block []))) [])
BeginsBlock old at size format byte_makes.NoMemory new = SameTable old new
BeginsBlock old at size format (byte_makes.Refuses kind) new = ⊥

-- what the byte makes of a value
abbrev pub ValueFollows : Order → Format → TableReader → ℕ → FieldStep → TableReader → Type 0
ValueFollows order format old byte result new =
    (next : TableData → Layout) (layout : Layout) (rest : List ℕ) → TableAt order old old.phase format next layout rest
    → TableMade order old format next layout (rest ++ byte ∷ []) result new

-- how many cells the byte of a value adds
abbrev pub ValueAdds : Order → Format → TableReader → ℕ → FieldStep → TableReader → Type 0
ValueAdds order format old byte result new =
    (next : TableData → Layout) (layout : Layout) (rest : List ℕ) → TableAt order old old.phase format next layout rest
    → Adds order layout rest (rest ++ byte ∷ []) result (reader_cells old) (reader_cells new)

-- `take_count`: the count of the entries is whole
abbrev pub TakesCount : TableReader → Result ℕ LebRange → Format → FieldStep → TableReader → Type 0
TakesCount old count format result new =
    (order : Order) (next : TableData → Layout) (layout : Layout) (w : List ℕ) → NoValues old
    → layout ≡ after_pairs format next (not (length old.pairs.items == 0)) old.pairs.items
    → UlebIs w count → TableMade order old format next layout w result new

-- what bytes make of the field that they fall in, of a table that isn't whole
pub record BytesFollow (order : Order) (format : Format) (old : TableReader) (bytes : List ℕ) (result : FieldStep)
    (new : TableReader) : Type 0 where
  pub made : (old.phase ≡ phase.Whole → ⊥) → (next : TableData → Layout) (layout : Layout) (rest : List ℕ)
      → TableAt order old old.phase format next layout rest
      → TableMade order old format next layout (rest ++ bytes) result new
  pub cells : (old.phase ≡ phase.Whole → ⊥) → (next : TableData → Layout) (layout : Layout) (rest : List ℕ)
      → TableAt order old old.phase format next layout rest
      → Adds order layout rest (rest ++ bytes) result (reader_cells old) (reader_cells new)

-- `push`
abbrev pub PushFollows : Order → Format → TableReader → ℕ → FieldStep → TableReader → Type 0
PushFollows order format old byte result new = BytesFollow order format old (byte ∷ []) result new

-- whether the bytes of a value of this form are cells
abbrev pub has_bytes : Form → Bool
has_bytes form.String = true
has_bytes form.Block1 = true
has_bytes form.Block2 = true
has_bytes form.Block4 = true
has_bytes form.Block = true
has_bytes f = false

-- `value_at_front`: the bytes in front of tail are those of the value, of which none came before
pub record InFront (order : Order) (v : ValuePhase) (bytes : List ℕ) (h : StoredValue) (tail : List ℕ) : Type 0 where
  pub front : List ℕ
  pub bytes_are : bytes ≡ front ++ tail
  pub some : 1 ≤ length front
  pub spelt : (format : Format) (f : Form) (pool rest : List ℕ) → ValueAt format f v pool rest
      → value_spelt order format f (rest ++ front) ≡ good (value_held pool h)
  pub one : (format : Format) (f : Form) (pool rest : List ℕ) → ValueAt format f v pool rest → has_bytes f ≡ false
  pub filled : (n : ℕ) → value_filled v n ≡ n
  pub none_due : value_due v ≡ 0
  pub cell : cells_held h ≡ 1
  pub within : held_end h ≡ 0

-- `leb_at_front`: the bytes in front of tail spell a number in LEB128, of which none came before
pub record LebInFront (u : Uleb) (bytes : List ℕ) (n : ℕ) (tail : List ℕ) : Type 0 where
  pub front : List ℕ
  pub bytes_are : bytes ≡ front ++ tail
  pub spelt : IsUleb64 n front
  pub none : (w : List ℕ) → UlebTook u w → w ≡ []

-- `length_at_front`: the bytes in front of tail are those of the length of a block, of which none came before
pub record LengthInFront (order : Order) (v : ValuePhase) (bytes : List ℕ) (size : ℕ) (tail : List ℕ) : Type 0 where
  pub front : List ℕ
  pub bytes_are : bytes ≡ front ++ tail
  pub some : 1 ≤ length front
  pub spelt : (format : Format) (f : Form) (pool rest : List ℕ) → ValueAt format f v pool rest
      → IsLengthOf order f size (rest ++ front)
  pub unbegun : (format : Format) (f : Form) (pool rest : List ℕ) → ValueAt format f v pool rest
      → begun_cells f rest ≡ 0
  pub filled : (n : ℕ) → value_filled v n ≡ n
  pub none_due : value_due v ≡ 0

-- `whole_block`: the bytes in front of tail are a block of this size, and its value is entered
pub record EntersBlock (old : TableReader) (at : Cursor) (size : ℕ) (format : Format) (bytes tail : List ℕ)
    (new : TableReader) : Type 0 where
  pub front : List ℕ
  pub bytes_are : bytes ≡ front ++ tail
  pub all : length front ≡ size
  pub made : (order : Order) (next : TableData → Layout) (layout : Layout) (v : ValuePhase) (rest : List ℕ)
      → InValue old at v format next layout rest → value_filled v (length old.pool.items) ≡ length old.pool.items
      → TableAt order new new.phase format next (following layout (value_is (block front))) []
  pub cells : reader_cells new ≡ reader_cells old + 1 + length front

-- `value_front`: the bytes in front of tail are those of the current value
pub record TakesFront (order : Order) (format : Format) (old : TableReader) (bytes tail : List ℕ)
    (new : TableReader) : Type 0 where
  pub front : List ℕ
  pub bytes_are : bytes ≡ front ++ tail
  pub some : 1 ≤ length front
  pub follows : BytesFollow order format old front byte_makes.Ends new

-- the reader is in the bytes rest of a field of a table that isn't whole
abbrev pub AmongTable : Order → Format → TableReader → (TableData → Layout) → Layout → List ℕ → Type 0
AmongTable order format t next layout rest = TableAt order t t.phase format next layout rest
    × (t.phase ≡ phase.Whole → ⊥)

-- `whole_values`: these bytes are values, and another value follows each
abbrev pub TakesValues : Order → Format → TableReader → List ℕ → TableReader → Type 0
TakesValues order format old bytes new = TakesFields order (AmongTable order format) reader_cells old bytes new

-- what is held makes a table
pub record MakesTable (t : TableReader) (format : Format) : Type 0 where
  pub rows : AreRows (length t.values.items) (length t.pairs.items)
  pub sound : IsSoundTable (table_of format t.pairs.items t.values.items t.pool.items)

-- `take`: the table and a fresh reader, where the last entry is complete
abbrev pub Takes : TableReader → Format → Option TableData → TableReader → Type 0
Takes old format None new = (old.phase ≡ phase.Whole → ⊥) × (new ≡ old)
Takes old format (Some t) new =
    (old.phase ≡ phase.Whole) × IsFresh new
    × ((next : TableData → Layout) (layout : Layout) → IsWhole old format next layout
    → (layout ≡ next t) × (table_cells t ≡ reader_cells old))
    × (t.format ≡ format)
