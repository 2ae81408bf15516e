-- Where the header reader is: after which fields, and in which bytes of one. No promise rests on how this is said.
use Rattle.std.specs.Prelude.{◌≡◌, ◌≢◌, ℕ, ◌+◌, ◌-◌, ◌≤◌, List, [], ◌∷◌, ◌++◌, length, Option, Some, None, ◌==◌, ◌⊎◌}
use Rattle.std.specs.Prelude.{if◌then◌else◌}
use Rattle.dl_num.specs.declared.fixed.Order.{Order}
use Rattle.dl_head.specs.declared.dialect.Dialect.{Dialect}
use Rattle.dl_num.specs.Fixed.{fixed}
use Rattle.dl_num.specs.NumberBytes.{number_size, number_bytes}
use Rattle.dl_head.specs.declared.reader.byte_field.ByteField.{ByteField}
use Rattle.dl_head.specs.declared.reader.byte_field.ByteField.TheVariants as field
use Rattle.dl_head.specs.declared.reader.Phase.{Phase}
use Rattle.dl_head.specs.declared.reader.Phase.TheVariants as phase
use Rattle.dl_field.specs.declared.field_step.FieldStep.{FieldStep}
use Rattle.dl_field.specs.declared.field_step.FieldStep.TheVariants as byte_makes
use Rattle.dl_head.specs.declared.reader.HeadReader.{HeadReader}
use Rattle.dl_field.specs.declared.table_reader.TableReader.{TableReader}
use Rattle.dl_field.specs.declared.list_reader.ListReader.{ListReader}
use Rattle.dl_table.specs.declared.fault.FaultKind.{FaultKind}
use Rattle.dl_table.specs.declared.fault.FaultKind.TheVariants as fault
use Rattle.dl_table.specs.declared.form.Format.{Format}
use Rattle.dl_field.specs.declared.params.Params.{Params}
use Rattle.dl_table.specs.TableData.{TableData}
use Rattle.dl_table.specs.TableCells.{table_cells}
use Rattle.dl_field.specs.TablePlace.{IsFresh, reader_cells}
use Rattle.dl_field.specs.ListPlace.{IsFreshList, AmongList, list_cells}
use Rattle.dl_field.specs.declared.list_reader.ListKind.TheVariants as kind
use Rattle.dl_field.specs.TableMoves.{Adds, AmongTable}
use Rattle.dl_table.specs.Value.{good, bad, offset_size}
use Rattle.dl_field.specs.Layout.{Layout, Item, length_is, number_is, following_all, field_spelt, unit_length_limit}
use Rattle.dl_head.specs.HeaderLayout.{header_layout, lengths_layout, tables_layout, from_files, from_end, initial_size}
use Rattle.dl_head.specs.HeaderLayout.{fixed_part, from_address_size, from_segment_selector_size, from_minimum_length}
use Rattle.dl_head.specs.HeaderLayout.{from_maximum_operations, from_default_is_stmt, from_line_base, from_line_range}
use Rattle.dl_head.specs.HeaderLayout.{from_opcode_base, from_older_files}
use Rattle.dl_head.specs.Dialect.{older_size}
use Rattle.dl_head.specs.Header.{unit_end, header_end}

-- the fields from one of one byte on
abbrev pub from_byte : ByteField → ℕ → Params → Layout
from_byte field.AddressSize unit_length p = from_address_size unit_length p
from_byte field.SegmentSelectorSize unit_length p = from_segment_selector_size unit_length p
from_byte field.MinimumInstructionLength unit_length p = from_minimum_length p
from_byte field.MaximumOperations unit_length p = from_maximum_operations p
from_byte field.DefaultIsStmt unit_length p = from_default_is_stmt p
from_byte field.LineBase unit_length p = from_line_base p
from_byte field.LineRange unit_length p = from_line_range p
from_byte field.OpcodeBase unit_length p = from_opcode_base p

-- the lengths of the opcodes that are left, after those in p
abbrev pub from_length : Params → Layout
from_length p =
    let before = p.lengths.items in
    lengths_layout (length before + 1) (p.opcode_base - 1 - length before) before λ lengths. tables_layout
    (record p { lengths = record { items = lengths } })

-- what of a reader tells its place
pub record Parts : Type 0 where
  pub dialect : Dialect
  pub params : Params
  pub unit_length : ℕ
  pub end : Option ℕ
  pub overrun : FaultKind
  pub table : TableReader
  pub list : ListReader
  pub directories : TableData
  pub files : TableData

abbrev pub parts : HeadReader → Parts
parts r = record {
  dialect = r.dialect;
  params = r.params;
  unit_length = r.unit_length;
  end = r.end;
  overrun = r.overrun;
  table = r.table;
  list = r.list;
  directories = r.directories;
  files = r.files;
}

-- the unit_length as a field's value
abbrev pub length_item : HeadReader → Item
length_item r = length_is r.params.format r.unit_length

-- where the unit ends
abbrev pub end_of_unit : HeadReader → ℕ
end_of_unit r = initial_size r.params.format + r.unit_length

-- what is known of the ends of the unit and of its header
pub record Bounds : Type 0 where
  pub dialect : Dialect
  pub unit : ℕ
  pub end : Option ℕ
  pub overrun : FaultKind

abbrev pub bounds : Parts → Bounds
bounds r = record {
  dialect = r.dialect;
  unit = initial_size r.params.format + r.unit_length;
  end = r.end;
  overrun = r.overrun;
}

-- nothing of a table or of an opcode has been read
pub record IsBefore (lengths : List ℕ) (t : TableReader) (l : ListReader) : Type 0 where
  pub no_lengths : lengths ≡ []
  pub fresh : IsFresh t
  pub unlisted : IsFreshList kind.Directories l

-- the values before header_length
pub record EarlyIn (r : Parts) (items is : List Item) : Type 0 where
  pub items_are : items ≡ is
  pub end : r.end ≡ Some (initial_size r.params.format + r.unit_length)
  pub overrun : r.overrun ≡ fault.UnitOverrun
  pub before : IsBefore r.params.lengths.items r.table r.list

abbrev pub Early : HeadReader → (items is : List Item) → Type 0
Early r items is = EarlyIn (parts r) items is

-- the fields after header_length
pub record PastIn (b : Bounds) (items : List Item) (layout : Layout) : Type 0 where
  pub follows : following_all (header_layout b.dialect) items ≡ layout
  pub unit : unit_end items ≡ Some b.unit
  pub header : ℕ
  pub header_ends : header_end items ≡ Some header
  pub end : b.end ≡ Some header
  pub overrun : b.overrun ≡ fault.HeaderOverrun

abbrev pub Past : HeadReader → List Item → Layout → Type 0
Past r items layout = PastIn (bounds (parts r)) items layout

-- those of them before the tables
pub record LateIn (b : Bounds) (t : TableReader) (l : ListReader) (items : List Item) (layout : Layout) : Type 0 where
  pub tail : PastIn b items layout
  pub fresh : IsFresh t
  pub unlisted : IsFreshList kind.Directories l

abbrev pub Late : Parts → List Item → Layout → Type 0
Late r items layout = LateIn (bounds r) r.table r.list items layout

-- the reader is in the bytes rest of a field of the current table, where is_at says in which
pub record InFields (b : Bounds) (items : List Item) (rest : List ℕ) (is_at : Layout → List ℕ → Type 0) : Type 0 where
  pub layout : Layout
  pub tail : PastIn b items layout
  pub at : is_at layout rest

-- in the table of version 5 that next follows, which isn't whole
abbrev pub TableGoes : Parts → (TableData → Layout) → Layout → List ℕ → Type 0
TableGoes r next layout rest = AmongTable r.dialect.order r.params.format r.table next layout rest

-- in that of versions 2 to 4
abbrev pub ListGoes : Parts → (TableData → Layout) → Layout → List ℕ → Type 0
ListGoes r next layout rest = AmongList r.params.format r.list next layout rest × IsFresh r.table

-- the values of the fields before header_length
abbrev pub before_length : Parts → List Item
before_length r = if r.params.version == 5 then length_is r.params.format r.unit_length ∷ number_is 5
    ∷ number_is r.params.address_size ∷ number_is r.params.segment_selector_size ∷ []
    else length_is r.params.format r.unit_length ∷ number_is r.params.version ∷ []

abbrev pub before_header_length : HeadReader → List Item
before_header_length r = before_length (parts r)

-- what the params are by an older version
pub record IsOlder (dialect : Dialect) (p : Params) : Type 0 where
  pub other : p.version ≢ 5
  pub size : older_size dialect p.version ≡ Some p.address_size
  pub segments : p.segment_selector_size ≡ 0
  pub operations : p.maximum_operations_per_instruction ≡ 1

-- the version is 5, or an older one that is read
abbrev pub IsOfVersion : HeadReader → Type 0
IsOfVersion r = (r.params.version ≡ 5) ⊎ IsOlder r.dialect r.params

-- nothing after the initial length is read
pub record IsUnread (p : Params) : Type 0 where
  pub version : p.version ≡ 5
  pub segments : p.segment_selector_size ≡ 0
  pub operations : p.maximum_operations_per_instruction ≡ 1

-- no field is after
pub record AtStartIn (r : Parts) (items : List Item) : Type 0 where
  pub none : items ≡ []
  pub end : r.end ≡ None
  pub overrun : r.overrun ≡ fault.UnitOverrun
  pub before : IsBefore r.params.lengths.items r.table r.list
  pub unread : IsUnread r.params

abbrev pub AtStart : HeadReader → List Item → Type 0
AtStart r items = AtStartIn (parts r) items

-- the bytes of the long initial length
pub record InLong (order : Order) (rest : List ℕ) (number : List ℕ) : Type 0 where
  pub escape : List ℕ
  pub whole : rest ≡ escape ++ number
  pub size : length escape ≡ 4
  pub value : fixed order escape ≡ 0xffffffff

-- The reader has read fields of these values, and the bytes rest of the next one, or of the padding.
abbrev pub IsAt : Parts → Phase → List Item → List ℕ → Type 0
IsAt r (phase.UnitLength n) items rest = AtStartIn r items × (number_bytes n ≡ rest) × (number_size n ≡ 4)
IsAt r (phase.LongUnitLength n) items rest = AtStartIn r items × InLong r.dialect.order rest (number_bytes n)
    × (number_size n ≡ 8)
IsAt r phase.Version items rest = EarlyIn r items (length_is r.params.format r.unit_length ∷ []) × (rest ≡ [])
    × IsUnread r.params
IsAt r (phase.VersionEnd first) items rest = EarlyIn r items (length_is r.params.format r.unit_length ∷ [])
    × (rest ≡ first ∷ []) × IsUnread r.params
IsAt r (phase.HeaderLength n) items rest =
    EarlyIn r items (before_length r) × ((r.params.version ≡ 5) ⊎ IsOlder r.dialect r.params) × (number_bytes n ≡ rest)
    × (number_size n ≡ offset_size r.params.format)
IsAt r (phase.Byte field.AddressSize) items rest =
    EarlyIn r items (length_is r.params.format r.unit_length ∷ number_is 5 ∷ []) × (rest ≡ [])
    × (r.params.version ≡ 5)
IsAt r (phase.Byte field.SegmentSelectorSize) items rest =
    EarlyIn r items (length_is r.params.format r.unit_length ∷ number_is 5 ∷ number_is r.params.address_size ∷ [])
    × (rest ≡ []) × (r.params.version ≡ 5)
IsAt r (phase.Byte f) items rest = Late r items (from_byte f r.unit_length r.params) × (rest ≡ [])
    × (r.params.lengths.items ≡ [])
IsAt r phase.OpcodeLength items rest = Late r items (from_length r.params) × (rest ≡ [])
IsAt r phase.Directories items rest = InFields (bounds r) items rest (TableGoes r (from_files r.params))
IsAt r phase.Files items rest = InFields (bounds r) items rest (TableGoes r (from_end r.params r.directories))
IsAt r phase.OlderDirectories items rest = InFields (bounds r) items rest (ListGoes r (from_older_files r.params))
IsAt r phase.OlderFiles items rest = InFields (bounds r) items rest (ListGoes r (from_end r.params r.directories))
IsAt r phase.Padding items rest = PastIn (bounds r) items (from_end r.params r.directories r.files)
IsAt r (phase.Foreign v) items rest = EarlyIn r items (length_is r.params.format r.unit_length ∷ number_is v ∷ [])
    × (v ≢ 5) × (older_size r.dialect v ≡ None)
IsAt r p items rest = ⊥

abbrev pub AtPhase : HeadReader → Phase → List Item → List ℕ → Type 0
AtPhase r p items rest = IsAt (parts r) p items rest

abbrev pub At : HeadReader → List Item → List ℕ → Type 0
At r items rest = AtPhase r r.phase items rest

-- the counts are kept, and the header
pub record SameCounts (old new : HeadReader) : Type 0 where
  pub dialect : new.dialect ≡ old.dialect
  pub start : new.start ≡ old.start
  pub taken : new.taken ≡ old.taken
  pub header : new.header ≡ old.header

-- what the byte makes of the field that ends with w
abbrev pub Made : Dialect → List Item → List ℕ → FieldStep → HeadReader → Type 0
Made dialect items w byte_makes.Within new =
    (field_spelt dialect.order (following_all (header_layout dialect) items) w ≡ None) × At new items w
Made dialect items w byte_makes.Ends new = (i : Item)
    × (field_spelt dialect.order (following_all (header_layout dialect) items) w ≡ good i) × At new (items ++ i ∷ []) []
Made dialect items w (byte_makes.Refuses kind) new =
    field_spelt dialect.order (following_all (header_layout dialect) items) w ≡ bad kind
Made dialect items w byte_makes.NoMemory new = ⊥

-- a byte of a field before the tables
pub record Follows (old : HeadReader) (byte : ℕ) (result : FieldStep) (new : HeadReader) : Type 0 where
  pub made : (items : List Item) (rest : List ℕ) → At old items rest
      → Made old.dialect items (rest ++ byte ∷ []) result new
  pub counts : SameCounts old new

-- `start_unit`: the initial length is good, and the reader is at the version, or it is too long
abbrev pub Starts : HeadReader → Format → ℕ → FieldStep → HeadReader → Type 0
Starts old format length byte_makes.Ends new =
    (length ≤ unit_length_limit) × (AtStart old [] → At new (length_is format length ∷ []) []) × SameCounts old new
Starts old format length (byte_makes.Refuses kind) new = (unit_length_limit + 1 ≤ length) × (kind ≡ fault.UnitTooLong)
    × SameCounts old new
Starts old format length result new = ⊥

-- `start_header`: header_length is good, and the reader is after it, or it is above the bytes left in the unit
abbrev pub StartsHeader : HeadReader → ℕ → FieldStep → HeadReader → Type 0
StartsHeader old header byte_makes.Ends new =
    (header ≤ old.unit_length - fixed_part old.params.format old.params.version)
    × ((items : List Item) → Early old items (before_header_length old) → IsOfVersion old
    → At new (items ++ number_is header ∷ []) [])
    × SameCounts old new
StartsHeader old header (byte_makes.Refuses kind) new =
    (old.unit_length - fixed_part old.params.format old.params.version + 1 ≤ header) × (kind ≡ fault.HeaderBeyondUnit)
    × SameCounts old new
StartsHeader old header result new = ⊥

-- what is known of the unit's length is kept
pub record SameUnit (old new : HeadReader) : Type 0 where
  pub end : new.end ≡ old.end
  pub unit_length : new.unit_length ≡ old.unit_length
  pub format : new.params.format ≡ old.params.format

-- a field that is refused
abbrev pub Keeps : HeadReader → FieldStep → HeadReader → Type 0
Keeps old (byte_makes.Refuses kind) new = SameUnit old new
Keeps old result new = Unit {0}

-- how many cells the reader holds
abbrev pub held_cells : HeadReader → ℕ
held_cells r = table_cells r.directories + table_cells r.files + reader_cells r.table + list_cells r.list

-- what bytes make of the field, or of the padding, that they fall in
abbrev pub BytesMade : HeadReader → List Item → List ℕ → List ℕ → FieldStep → HeadReader → Type 0
BytesMade old items rest bytes byte_makes.NoMemory new = At new items rest
BytesMade old items rest bytes result new = Made old.dialect items (rest ++ bytes) result new

-- bytes of a header that isn't whole
pub record BytesFollow (old : HeadReader) (bytes : List ℕ) (result : FieldStep) (new : HeadReader) : Type 0 where
  pub made : (items : List Item) (rest : List ℕ) → At old items rest → BytesMade old items rest bytes result new
  pub cells : (items : List Item) (rest : List ℕ) → At old items rest
      → Adds old.dialect.order (following_all (header_layout old.dialect) items) rest (rest ++ bytes) result
      (held_cells old) (held_cells new)
  pub counts : SameCounts old new

-- `push`
abbrev pub PushFollows : HeadReader → ℕ → FieldStep → HeadReader → Type 0
PushFollows old byte result new = BytesFollow old (byte ∷ []) result new
