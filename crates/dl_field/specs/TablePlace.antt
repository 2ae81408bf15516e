-- Where the reader of a table is in its fields; `next` is what follows the table. No promise rests on how this is said.
use Rattle.std.specs.Prelude.{◌≡◌, ℕ, ◌+◌, ◌-◌, ◌≤◌, drop, Bool, true, not, ◌==◌, List, [], ◌∷◌, ◌++◌}
use Rattle.std.specs.Prelude.{length, Some, None, Option, map, Ok, Err, sum_by}
use Rattle.dl_num.specs.declared.fixed.Order.{Order}
use Rattle.dl_num.specs.LebReader.{UlebTook}
use Rattle.dl_table.specs.declared.form.Format.{Format}
use Rattle.dl_table.specs.declared.form.Form.{Form}
use Rattle.dl_table.specs.declared.form.Form.TheVariants as form
use Rattle.dl_table.specs.declared.table.held.StoredValue.{StoredValue}
use Rattle.dl_table.specs.declared.table.held.StoredValue.TheVariants as held
use Rattle.dl_field.specs.declared.value_phase.Cursor.{Cursor}
use Rattle.dl_field.specs.declared.value_phase.ValuePhase.{ValuePhase}
use Rattle.dl_field.specs.declared.value_phase.ValuePhase.TheVariants as value
use Rattle.dl_table.specs.declared.table.Pair.{Pair}
use Rattle.dl_field.specs.declared.table_reader.TableReader.{TableReader}
use Rattle.dl_field.specs.declared.table_reader.TablePhase.{TablePhase}
use Rattle.dl_field.specs.declared.table_reader.TablePhase.TheVariants as phase
use Rattle.dl_table.specs.TableData.{TableData}
use Rattle.dl_num.specs.NumberBytes.{number_size, number_bytes}
use Rattle.dl_num.specs.OperandBytes.{operand_bytes}
use Rattle.dl_table.specs.Held.{value_held, values_end, cells_held}
use Rattle.dl_field.specs.TableStep.{value_filled}
use Rattle.dl_field.specs.Cells.{item_cells, rest_cells}
use Rattle.dl_field.specs.Field.{IsFixed, IsUleb64, HasNoZero}
use Rattle.dl_table.specs.Value.{Value, line_str, str, str_sup, number, offset_size}
use Rattle.dl_field.specs.Layout.{Layout, number_then, form_then, content_code, entry_count}
use Rattle.dl_field.specs.Layout.{field_spelt, pairs_layout, entry_layout, entries_layout, table_layout}

-- the reader of a table has taken nothing
pub record IsFresh (t : TableReader) : Type 0 where
  pub phase : t.phase ≡ phase.PairCount
  pub pairs : t.pairs.items ≡ []
  pub values : t.values.items ≡ []
  pub pool : t.pool.items ≡ []

-- how many cells the reader of a table holds
abbrev pub reader_cells : TableReader → ℕ
reader_cells t = length t.pairs.items + length t.values.items + length t.pool.items

-- the cells of the field at the front of the layout, of which the bytes w have come
abbrev pub field_cells : Order → Layout → List ℕ → ℕ
field_cells order layout w = elim (field_spelt order layout w) [
  | Some (Ok i) ↦ item_cells i
  | Some (Err kind) ↦ rest_cells layout w
  | None ↦ rest_cells layout w
]

-- what follows the pairs; some: there are any
abbrev pub after_pairs : Format → (TableData → Layout) → Bool → List Pair → Layout
after_pairs format next some pairs =
    number_then (entry_count some) λ count. entries_layout format pairs count [] λ entries. next
    (record { format = format; pairs = pairs; entries = entries })

-- the pairs that are left after those that were read, and what follows them
abbrev pub pairs_left : Format → (TableData → Layout) → ℕ → List Pair → Layout
pairs_left format next left pairs = pairs_layout left pairs (after_pairs format next true)

-- a form code, and the pairs that are left with it
abbrev pub form_left : Format → (TableData → Layout) → ℕ → List Pair → ℕ → Layout
form_left format next left pairs content = form_then λ f. pairs_left format next (left - 1)
    (pairs ++ record { content = content; form = f } ∷ [])

-- no value is held
pub record NoValues (t : TableReader) : Type 0 where
  pub values : t.values.items ≡ []
  pub pool : t.pool.items ≡ []

-- how many bytes a number of this form has
abbrev pub number_bytes_of : Format → Form → Option ℕ
number_bytes_of format form.Data1 = Some 1
number_bytes_of format form.Data2 = Some 2
number_bytes_of format form.Data4 = Some 4
number_bytes_of format form.Data8 = Some 8
number_bytes_of format form.Strp = Some (offset_size format)
number_bytes_of format form.StrpSup = Some (offset_size format)
number_bytes_of format form.LineStrp = Some (offset_size format)
number_bytes_of format f = None

-- the value of a number of this form
abbrev pub number_value : Form → ℕ → Value
number_value form.LineStrp n = line_str n
number_value form.Strp n = str n
number_value form.StrpSup n = str_sup n
number_value f n = number n

-- how many bytes the length of a block of this form has
abbrev pub length_bytes_of : Form → Option ℕ
length_bytes_of form.Block1 = Some 1
length_bytes_of form.Block2 = Some 2
length_bytes_of form.Block4 = Some 4
length_bytes_of f = None

-- the spelling of the length of a block of this form
abbrev pub IsLengthOf : Order → Form → ℕ → List ℕ → Type 0
IsLengthOf order form.Block n w = IsUleb64 n w
IsLengthOf order f n w = (k : ℕ) × (length_bytes_of f ≡ Some k) × IsFixed order k n w

-- the bytes rest of a value of the form have come, where the pool holds these bytes
abbrev pub ValueAt : Format → Form → ValuePhase → List ℕ → List ℕ → Type 0
ValueAt format f (value.Number g n) pool rest = (g ≡ f) × (number_bytes_of format f ≡ Some (number_size n))
    × (number_bytes n ≡ rest)
ValueAt format f (value.Leb u) pool rest = (f ≡ form.Udata) × UlebTook u rest
ValueAt format f (value.Text start) pool rest = (f ≡ form.String) × (start ≤ length pool) × (drop start pool ≡ rest)
    × HasNoZero rest
ValueAt format f (value.Data16 s) pool rest = (f ≡ form.Data16) × (operand_bytes s.operand ≡ rest)
ValueAt format f (value.BlockLength n) pool rest = (length_bytes_of f ≡ Some (number_size n)) × (number_bytes n ≡ rest)
ValueAt format f (value.LebBlockLength u) pool rest = (f ≡ form.Block) × UlebTook u rest
ValueAt format f (value.Block left) pool rest = ⊥

-- the values of the entries, one entry after the other
abbrev pub joined : List (List Value) → List Value
joined [] = []
joined (e ∷ entries) = e ++ joined entries

-- each entry has a value for each pair
abbrev pub AreWide : ℕ → List (List Value) → Type 0
AreWide width [] = Unit {0}
AreWide width (e ∷ entries) = (length e ≡ width) × AreWide width entries

-- entries, and the values of one that isn't complete, are held
pub record Holds (pairs : List Pair) (pool : List ℕ) (values : List StoredValue) (entries : List (List Value))
    (before : List Value) : Type 0 where
  pub held : joined entries ++ before ≡ map (value_held pool) values
  pub wide : AreWide (length pairs) entries
  pub within : values_end values ≤ length pool

-- `filled` bytes of the pool are those of texts and blocks among the values
abbrev pub Summed : List StoredValue → ℕ → Type 0
Summed values filled = sum_by cells_held values ≡ length values + filled

-- what follows the values before of an entry after these, where `left` entries are left with it
abbrev pub values_left : Format → (TableData → Layout) → List Pair → List (List Value) → List Value → ℕ → Layout
values_left format next pairs entries before left =
    entry_layout format (drop (length before) pairs) before λ entry.
    entries_layout format pairs (left - 1) (entries ++ entry ∷ []) λ all. next
    (record { format = format; pairs = pairs; entries = all })

-- the reader is in the bytes rest of a value
pub record InValue (t : TableReader) (at : Cursor) (v : ValuePhase) (format : Format) (next : TableData → Layout)
    (layout : Layout) (rest : List ℕ) : Type 0 where
  pub entries : List (List Value)
  pub before : List Value
  pub column : at.column ≡ length before
  pub pair : Pair
  pub later : List Pair
  pub at_pair : drop (length before) t.pairs.items ≡ pair ∷ later
  pub holds : Holds t.pairs.items t.pool.items t.values.items entries before
  pub summed : Summed t.values.items (value_filled v (length t.pool.items))
  pub layout_is : layout ≡ values_left format next t.pairs.items entries before at.left
  pub value : ValueAt format pair.form v t.pool.items rest

-- the reader is in the bytes of a block, whose value is entered already; `left` are to come
pub record InBlock (order : Order) (t : TableReader) (at : Cursor) (left : ℕ) (format : Format)
    (next : TableData → Layout) (layout : Layout) (rest : List ℕ) : Type 0 where
  pub entries : List (List Value)
  pub before : List Value
  pub column : at.column ≡ length before
  pub pair : Pair
  pub later : List Pair
  pub at_pair : drop (length before) t.pairs.items ≡ pair ∷ later
  pub earlier : List StoredValue
  pub pool : List ℕ
  pub size : List ℕ
  pub bytes : List ℕ
  pub values_are : t.values.items ≡ earlier ++ held.Block (record { start = length pool; len = length bytes + left })
      ∷ []
  pub pool_is : t.pool.items ≡ pool ++ bytes
  pub holds : Holds t.pairs.items pool earlier entries before
  pub summed : Summed earlier (length pool)
  pub layout_is : layout ≡ values_left format next t.pairs.items entries before at.left
  pub rest_is : rest ≡ size ++ bytes
  pub length_is : IsLengthOf order pair.form (length bytes + left) size
  pub some : 1 ≤ left

-- the last entry is complete
pub record IsWhole (t : TableReader) (format : Format) (next : TableData → Layout) (layout : Layout) : Type 0 where
  pub entries : List (List Value)
  pub holds : Holds t.pairs.items t.pool.items t.values.items entries []
  pub summed : Summed t.values.items (length t.pool.items)
  pub some_pairs : length t.pairs.items ≡ 0 → entries ≡ []
  pub layout_is : layout ≡ next (record { format = format; pairs = t.pairs.items; entries = entries })

-- the reader is in the bytes rest of the first field of the layout
abbrev pub TableAt : Order → TableReader → TablePhase → Format → (TableData → Layout) → Layout → List ℕ → Type 0
TableAt order t phase.PairCount format next layout rest = IsFresh t × (layout ≡ table_layout format next) × (rest ≡ [])
TableAt order t (phase.ContentCode left code) format next layout rest =
    NoValues t × (layout ≡ number_then content_code (form_left format next left t.pairs.items)) × UlebTook code rest
    × (1 ≤ left)
TableAt order t (phase.FormCode left content code) format next layout rest =
    NoValues t × (layout ≡ form_left format next left t.pairs.items content) × UlebTook code rest × (1 ≤ left)
TableAt order t (phase.EntryCount count) format next layout rest =
    NoValues t × (layout ≡ after_pairs format next (not (length t.pairs.items == 0)) t.pairs.items)
    × UlebTook count rest
TableAt order t (phase.Value at (value.Block left)) format next layout rest =
    InBlock order t at left format next layout rest
TableAt order t (phase.Value at v) format next layout rest = InValue t at v format next layout rest
TableAt order t phase.Whole format next layout rest = IsWhole t format next layout × (rest ≡ [])
