-- Where the reader of an older table is in its fields; `next` is what follows. No promise rests on how this is said.
use Rattle.std.specs.Prelude.{◌≡◌, ℕ, ◌+◌, ◌≤◌, List, [], ◌∷◌, ◌++◌, length, drop, Some, None, Option}
use Rattle.dl_num.specs.declared.fixed.Order.{Order}
use Rattle.dl_num.specs.LebReader.{UlebTook}
use Rattle.dl_num.specs.declared.leb.Uleb.{Uleb}
use Rattle.dl_table.specs.declared.form.Format.{Format}
use Rattle.dl_table.specs.declared.table.held.StoredValue.{StoredValue}
use Rattle.dl_table.specs.TableData.{TableData}
use Rattle.dl_table.specs.TableCells.{table_cells}
use Rattle.dl_table.specs.Held.{table_of}
use Rattle.dl_table.specs.Held.{IsWhole as AreRows}
use Rattle.dl_table.specs.Sound.{IsSoundTable}
use Rattle.dl_table.specs.Value.{Value, good, bad}
use Rattle.dl_field.specs.Field.{HasNoZero}
use Rattle.dl_field.specs.ListStep.{listed}
use Rattle.dl_field.specs.Layout.{Layout, path_or_end, listed_from, Item, following}
use Rattle.dl_field.specs.Layout.{field_spelt}
use Rattle.dl_field.specs.TablePlace.{Holds, Summed, field_cells}
use Rattle.dl_field.specs.TableMoves.{Adds}
use Rattle.dl_field.specs.FieldRuns.{TakesFields}
use Rattle.dl_field.specs.declared.field_step.FieldStep.{FieldStep}
use Rattle.dl_field.specs.declared.field_step.FieldStep.TheVariants as byte_makes
use Rattle.dl_field.specs.declared.list_reader.ListKind.{ListKind}
use Rattle.dl_field.specs.declared.list_reader.ListKind.TheVariants as kind
use Rattle.dl_field.specs.declared.list_reader.ListPhase.{ListPhase}
use Rattle.dl_field.specs.declared.list_reader.ListPhase.TheVariants as phase
use Rattle.dl_field.specs.declared.list_reader.ListReader.{ListReader}

-- the reader has taken nothing
pub record IsFreshList (k : ListKind) (t : ListReader) : Type 0 where
  pub kind : t.kind ≡ k
  pub phase : t.phase ≡ phase.Path 0
  pub pairs : t.pairs.items ≡ []
  pub values : t.values.items ≡ []
  pub pool : t.pool.items ≡ []

-- how many cells the reader holds
abbrev pub list_cells : ListReader → ℕ
list_cells t = length t.pairs.items + length t.values.items + length t.pool.items

-- the reader is in the bytes rest of a path, or at the zero byte after the last entry
pub record InPath (t : ListReader) (start : ℕ) (format : Format) (next : TableData → Layout) (layout : Layout)
    (rest : List ℕ) : Type 0 where
  pub none : t.pairs.items ≡ []
  pub entries : List (List Value)
  pub holds : Holds (listed t.kind) t.pool.items t.values.items entries []
  pub summed : Summed t.values.items start
  pub layout_is : layout ≡ path_or_end format (listed t.kind) entries next
  pub start_is : start ≤ length t.pool.items
  pub rest_is : drop start t.pool.items ≡ rest
  pub no_zero : HasNoZero rest

-- the reader is in the bytes rest of a number, with which `left` are left of the entry
pub record InNumber (t : ListReader) (left : ℕ) (number : Uleb) (format : Format) (next : TableData → Layout)
    (layout : Layout) (rest : List ℕ) : Type 0 where
  pub none : t.pairs.items ≡ []
  pub entries : List (List Value)
  pub before : List Value
  pub path : 1 ≤ length before
  pub some : 1 ≤ left
  pub place : length before + left ≡ length (listed t.kind)
  pub holds : Holds (listed t.kind) t.pool.items t.values.items entries before
  pub summed : Summed t.values.items (length t.pool.items)
  pub layout_is : layout ≡ listed_from format (listed t.kind) entries before next
  pub took : UlebTook number rest

-- the zero byte has come
pub record IsList (t : ListReader) (format : Format) (next : TableData → Layout) (layout : Layout) : Type 0 where
  pub pairs : t.pairs.items ≡ listed t.kind
  pub entries : List (List Value)
  pub holds : Holds t.pairs.items t.pool.items t.values.items entries []
  pub summed : Summed t.values.items (length t.pool.items)
  pub layout_is : layout ≡ next (record { format = format; pairs = t.pairs.items; entries = entries })

-- the reader is in the bytes rest of the first field of the layout
abbrev pub ListAt : ListReader → ListPhase → Format → (TableData → Layout) → Layout → List ℕ → Type 0
ListAt t (phase.Path start) format next layout rest = InPath t start format next layout rest
ListAt t (phase.Number left number) format next layout rest = InNumber t left number format next layout rest
ListAt t phase.Whole format next layout rest = IsList t format next layout × (rest ≡ [])

-- the phase and what is held are as they were
pub record SameList (old new : ListReader) : Type 0 where
  pub kind : new.kind ≡ old.kind
  pub phase : new.phase ≡ old.phase
  pub pairs : new.pairs.items ≡ old.pairs.items
  pub values : new.values.items ≡ old.values.items
  pub pool : new.pool.items ≡ old.pool.items

-- what the byte makes of the field that ends with w
abbrev pub ListMade : Order → ListReader → Format → (TableData → Layout) → Layout → List ℕ → FieldStep → ListReader
    → Type 0
ListMade order old format next layout w byte_makes.Within new = (field_spelt order layout w ≡ None)
    × ListAt new new.phase format next layout w
ListMade order old format next layout w byte_makes.Ends new = (i : Item) × (field_spelt order layout w ≡ good i)
    × ListAt new new.phase format next (following layout i) []
ListMade order old format next layout w (byte_makes.Refuses k) new = (field_spelt order layout w ≡ bad k)
    × SameList old new
ListMade order old format next layout w byte_makes.NoMemory new = SameList old new × (1 ≤ field_cells order layout w)

-- what bytes make of the field that they fall in, of a table that isn't whole
abbrev pub ListFollows : ListReader → List ℕ → FieldStep → ListReader → Type 0
ListFollows old bytes result new =
    (old.phase ≡ phase.Whole → ⊥) → (order : Order) (format : Format) (next : TableData → Layout) (layout : Layout)
    (rest : List ℕ) → ListAt old old.phase format next layout rest
    → ListMade order old format next layout (rest ++ bytes) result new

-- how many cells the bytes add
abbrev pub ListAdds : ListReader → List ℕ → FieldStep → ListReader → Type 0
ListAdds old bytes result new =
    (old.phase ≡ phase.Whole → ⊥) → (order : Order) (format : Format) (next : TableData → Layout) (layout : Layout)
    (rest : List ℕ) → ListAt old old.phase format next layout rest
    → Adds order layout rest (rest ++ bytes) result (list_cells old) (list_cells new)

-- `push_front`: both
pub record ListTakes (old : ListReader) (bytes : List ℕ) (result : FieldStep) (new : ListReader) : Type 0 where
  pub made : ListFollows old bytes result new
  pub cells : ListAdds old bytes result new

-- `whole_value`: the bytes in front of tail are a path or a number, and the table goes on after it
pub record TakesListed (old : ListReader) (bytes tail : List ℕ) (new : ListReader) : Type 0 where
  pub front : List ℕ
  pub bytes_are : bytes ≡ front ++ tail
  pub some : 1 ≤ length front
  pub takes : ListTakes old front byte_makes.Ends new
  pub going : new.phase ≡ phase.Whole → ⊥

-- the reader is in the bytes rest of a field of a table that isn't whole
abbrev pub AmongList : Format → ListReader → (TableData → Layout) → Layout → List ℕ → Type 0
AmongList format t next layout rest = ListAt t t.phase format next layout rest × (t.phase ≡ phase.Whole → ⊥)

-- `whole_values`: these bytes are paths and numbers, and the table goes on after each
abbrev pub TakesEachListed : ListReader → List ℕ → ListReader → Type 0
TakesEachListed old bytes new = (order : Order) (format : Format)
    → TakesFields order (AmongList format) list_cells old bytes new

-- a byte of a field that is one cell, once it is whole
abbrev pub OneListCell : ListReader → FieldStep → ListReader → Type 0
OneListCell old byte_makes.Ends new = list_cells new ≡ list_cells old + 1
OneListCell old result new = list_cells new ≡ list_cells old

-- values of an entry are complete, and `left` numbers of it are left
abbrev pub GoesOnList : ListKind → List ℕ → List StoredValue → ℕ → ListReader → Type 0
GoesOnList k pool values left new =
    (format : Format) (next : TableData → Layout) (layout : Layout) (entries : List (List Value)) (before : List Value)
    → Holds (listed k) pool values entries before → Summed values (length pool) → 1 ≤ length before
    → length before + left ≡ length (listed k) → layout ≡ listed_from format (listed k) entries before next
    → ListAt new new.phase format next layout []

-- `enter`: the value is complete, and `left` numbers of its entry are left, or memory was refused
abbrev pub EntersList : ListReader → StoredValue → ℕ → FieldStep → ListReader → Type 0
EntersList old h left byte_makes.Ends new = GoesOnList old.kind old.pool.items (old.values.items ++ h ∷ []) left new
EntersList old h left byte_makes.NoMemory new = SameList old new
EntersList old h left result new = ⊥

-- what is held makes a table
pub record MakesList (t : ListReader) (format : Format) : Type 0 where
  pub rows : AreRows (length t.values.items) (length t.pairs.items)
  pub sound : IsSoundTable (table_of format t.pairs.items t.values.items t.pool.items)

-- `take`: the table and a fresh reader, where the zero byte has come
abbrev pub TakesList : ListReader → Format → Option TableData → ListReader → Type 0
TakesList old format None new = (old.phase ≡ phase.Whole → ⊥) × (new ≡ old)
TakesList old format (Some t) new =
    (old.phase ≡ phase.Whole) × IsFreshList kind.Files new
    × ((next : TableData → Layout) (layout : Layout) → IsList old format next layout
    → (layout ≡ next t) × (table_cells t ≡ list_cells old))
    × (t.format ≡ format)
