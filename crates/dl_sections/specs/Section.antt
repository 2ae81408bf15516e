-- The units of a section, which stand back to back, and what a command is told of them. DWARF 5, section 6.2.4.
use Rattle.std.specs.Prelude.{◌≡◌, ◌≢◌, ◌⊎◌, ◌<◌, ◌≤◌, ℕ, ◌+◌, Bool, List, take, Result, Ok, Err, [], ◌∷◌, ◌++◌, length}
use Rattle.std.specs.Prelude.{flat_map, map, is_some, is_none, if◌then◌else◌, Option, Some, None, count_by, sum_by}
use Rattle.std.specs.List.{AllByRecursion, concat}
use Rattle.std.specs.Option.{option_map}
use Rattle.std.specs.Io.KnownBytes.{IsAtEnd}
use Rattle.dl_head.specs.declared.dialect.Dialect.{Dialect}
use Rattle.dl_table.specs.declared.fault.FaultKind.{FaultKind}
use Rattle.dl_table.specs.declared.fault.FaultKind.TheVariants.{Truncated}
use Rattle.dl_field.specs.HeaderData.{HeaderData}
use Rattle.dl_head.specs.declared.header.HeaderLengths.{HeaderLengths}
use Rattle.dl_head.specs.Header.{foreign_in, header_in, lengths_in}
use Rattle.dl_head.specs.Reading.{RefusesCell as RefusesCellAt}
use Rattle.dl_rows.specs.Items.{Item, unit_items}
use Rattle.dl_rows.specs.declared.reader.Event.{Event}
use Rattle.dl_rows.specs.declared.reader.Event.TheVariants as event
use Rattle.dl_rows.specs.LineUnit.{IsUnit, unit_rows, ends_open, events}
use Rattle.dl_rows.specs.Reading.{WithinUnit}
use Rattle.dl_rows.specs.Refusal.{Refused}
use Rattle.dl_rows.specs.Runs.{Sound}
use Rattle.dl_sections.specs.declared.fault.RunFault.{RunFault}
use Rattle.dl_sections.specs.declared.fault.RunFault.TheVariants as fault
use Rattle.dl_print.specs.declared.summary.Summary.{Summary}

-- s is units one after the other, and then other bytes
pub record HasUnits (dialect : Dialect) (s : List ℕ) (units : List (List ℕ)) (rest : List ℕ) : Type 0 where
  pub whole : s ≡ concat units ++ rest
  pub each : AllByRecursion (IsUnit dialect) units

-- no front of b but b is refused
abbrev pub NoneBefore : Dialect → List ℕ → Type 0
NoneBefore dialect b = (front back : List ℕ) (at : ℕ) (kind : FaultKind) → b ≡ front ++ back → 1 ≤ length back
    → Refused dialect front at kind → ⊥

-- s is these units, then b, which goes neither beyond one unit more nor beyond a fault, and then other bytes
pub record HasBegun (dialect : Dialect) (s : List ℕ) (units : List (List ℕ)) (b back : List ℕ) : Type 0 where
  pub has : HasUnits dialect s units (b ++ back)
  pub in_unit : WithinUnit dialect b
  pub none_before : NoneBefore dialect b

-- no unit stands at the front of the rest
abbrev pub NoUnitBegins : Dialect → List ℕ → Type 0
NoUnitBegins dialect rest = (u back : List ℕ) → rest ≡ u ++ back → IsUnit dialect u → ⊥

-- version 5 units, units of other versions, end rows, and rows
abbrev pub summary_of : Dialect → List (List ℕ) → Summary
summary_of dialect units = record {
  units = count_by (λ u. is_none (foreign_in dialect u)) units;
  skipped = count_by (λ u. is_some (foreign_in dialect u)) units;
  sequences = sum_by (λ u. count_by (λ r. r.end_sequence) (unit_rows dialect u)) units;
  rows = sum_by (λ u. length (unit_rows dialect u)) units;
}

-- ---- how the reading of a section ends: bytes were read, of which the first `limit` are looked at, and a reader has
-- some left

-- the last byte of b decides a fault; or none does, and the input ends in b
abbrev pub IsDamaged : Dialect
    → (limit : ℕ) (bytes : List ℕ) (left : Option (List ℕ)) (units : List (List ℕ)) (b back : List ℕ)
    → (offset : ℕ) (kind : FaultKind) → Type 0
IsDamaged dialect limit bytes left units b back offset kind =
    ((at : ℕ) × (offset ≡ length (concat units) + at) × Refused dialect b at kind)
    ⊎ ((back ≡ []) × (b ≢ []) × Sound dialect b × (length bytes ≤ limit) × IsAtEnd left × (offset ≡ length bytes)
    × (kind ≡ Truncated))

-- by the byte after b its header holds a cell more, for which the system refused memory
abbrev pub RefusesCell : Dialect → (b back : List ℕ) → Type 0
RefusesCell dialect b back =
    (byte : ℕ) × (others : List ℕ) × (back ≡ byte ∷ others) × RefusesCellAt dialect b byte

-- where no write fails. The first `limit` bytes are units, and then b and back, which no unit begins, but where memory
-- is refused.
abbrev pub EndsAs : Dialect
    → (limit : ℕ) (bytes : List ℕ) (left : Option (List ℕ)) (units : List (List ℕ)) (b back : List ℕ)
    → Result Summary RunFault → Type 0
EndsAs dialect limit bytes left units b back (Ok summary) =
    HasUnits dialect bytes units [] × (b ≡ []) × (back ≡ []) × (length bytes ≤ limit) × IsAtEnd left
    × (summary ≡ summary_of dialect units)
EndsAs dialect limit bytes left units b back (Err (fault.Damage offset kind)) =
    HasUnits dialect (take limit bytes) units (b ++ back) × NoUnitBegins dialect (b ++ back)
    × IsDamaged dialect limit bytes left units b back offset kind
EndsAs dialect limit bytes left units b back (Err fault.Read) =
    HasUnits dialect bytes units b × (back ≡ []) × NoUnitBegins dialect b × Sound dialect b × (length bytes ≤ limit)
EndsAs dialect limit bytes left units b back (Err fault.SectionTooLong) =
    HasUnits dialect (take limit bytes) units b × (back ≡ []) × NoUnitBegins dialect b × Sound dialect b
    × (limit < length bytes)
EndsAs dialect limit bytes left units b back (Err fault.NoMemory) =
    HasBegun dialect (take limit bytes) units b back × Sound dialect b × RefusesCell dialect b back
EndsAs dialect limit bytes left units b back (Err other) = ⊥

-- ---- what a command is told

-- offset: that of the unit in its section
pub data Visit : Type 0 where
  of_header : (offset : ℕ) (lengths : HeaderLengths) (h : HeaderData) → Visit
  of_version : (offset version : ℕ) → Visit
  -- what the bytes of its program come to
  of_item : (item : Item) → Visit
  -- the last row of a unit isn't an end row
  of_open : Visit
  -- a unit is whole, which had this header
  of_end : (h : Option HeaderData) → Visit
  -- the unit at the first offset of the section is damaged, which has this fault at the second one
  of_damage : (unit offset : ℕ) (kind : FaultKind) → Visit

-- the header that b begins with
abbrev pub header_of : Dialect → List ℕ → Option HeaderData
header_of dialect b = option_map (λ parts. parts.0) (header_in dialect b)

-- a header, with how long it and its unit are
pub record HeaderRead : Type 0 where
  pub lengths : HeaderLengths
  pub header : HeaderData

abbrev pub read_by : (lengths : HeaderData → HeaderLengths) → Option (HeaderData × List ℕ) → Option HeaderRead
read_by lengths parts = option_map (λ p. record { lengths = lengths p.0; header = p.0 }) parts

-- the header that b begins with
abbrev pub header_read : Dialect → List ℕ → Option HeaderRead
header_read dialect b = read_by (lengths_in dialect b) (header_in dialect b)

abbrev pub header_visit : ℕ → Option HeaderRead → List Visit
header_visit offset None = []
header_visit offset (Some read) = of_header offset read.lengths read.header ∷ []

abbrev pub event_visits : ℕ → Option HeaderRead → Event → List Visit
event_visits offset read event.Header = header_visit offset read
event_visits offset read (event.Foreign version) = of_version offset version ∷ []
event_visits offset read other = []

-- of b, a unit at that offset or the front of one: its header or version, and then what its program comes to
abbrev pub visits : Dialect → ℕ → List ℕ → List Visit
visits dialect offset b =
    flat_map (event_visits offset (header_read dialect b)) (events dialect b) ++ map of_item (unit_items dialect b)

abbrev pub open_visit : Bool → List Visit
open_visit is_open = if is_open then of_open ∷ [] else []

-- at the end of a unit
abbrev pub end_visits : Dialect → List ℕ → List Visit
end_visits dialect u = open_visit (ends_open (unit_rows dialect u)) ++ of_end (header_of dialect u) ∷ []

-- of a whole unit
abbrev pub unit_visits : Dialect → ℕ → List ℕ → List Visit
unit_visits dialect offset u = visits dialect offset u ++ end_visits dialect u

-- of units one after the other, the first at that offset
abbrev pub units_visits : Dialect → ℕ → List (List ℕ) → List Visit
units_visits dialect offset [] = []
units_visits dialect offset (u ∷ units) = unit_visits dialect offset u ++ units_visits dialect (offset + length u) units

-- of units, and of the front of one more
abbrev pub section_visits : Dialect → List (List ℕ) → List ℕ → List Visit
section_visits dialect units b = units_visits dialect 0 units ++ visits dialect (length (concat units)) b
