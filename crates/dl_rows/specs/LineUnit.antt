-- A unit of a line table, and what its bytes come to. DWARF 5, section 6.2.4; initial lengths are of section 7.4.
use Rattle.dl_head.specs.declared.dialect.Dialect.{Dialect}
use Rattle.std.specs.Prelude.{◌≡◌, ◌≢◌, ◌⊎◌, ℕ, Bool, false, not, List, [], ◌∷◌, ◌++◌, length, map, Option, Some, None}
use Rattle.dl_num.specs.declared.fixed.Order.{Order}
use Rattle.dl_table.specs.declared.form.Format.{Format}
use Rattle.dl_field.specs.declared.params.Params.{Params}
use Rattle.dl_field.specs.HeaderData.{HeaderData}
use Rattle.dl_field.specs.Field.{IsFixed, IsInitialLength}
use Rattle.dl_head.specs.Dialect.{older_size}
use Rattle.dl_head.specs.Header.{IsHeader, foreign_in, header_in}
use Rattle.dl_rows.specs.declared.row.Row.{Row}
use Rattle.dl_rows.specs.declared.reader.Event.{Event}
use Rattle.dl_rows.specs.declared.reader.Event.TheVariants as event
use Rattle.dl_rows.specs.declared.operation.Operation.{Operation}
use Rattle.dl_rows.specs.Matrix.{matrix}
use Rattle.dl_rows.specs.OperationSpelt.{operations_in}
use Rattle.dl_rows.specs.Spelling.{SpellsProgram}

-- u begins with a good initial length, and is as long as that says
pub record HasItsLength (order : Order) (u : List ℕ) : Type 0 where
  pub format : Format
  pub unit_length : ℕ
  pub front : List ℕ
  pub rest : List ℕ
  pub whole : u ≡ front ++ rest
  pub spells : IsInitialLength order format unit_length front
  pub size : length rest ≡ unit_length

-- after its initial length stand a version that isn't read and any bytes
pub record IsForeignUnit (dialect : Dialect) (version : ℕ) (u : List ℕ) : Type 0 where
  pub its_length : HasItsLength dialect.order u
  pub front : List ℕ
  pub back : List ℕ
  pub whole : its_length.rest ≡ front ++ back
  pub spells : IsFixed dialect.order 2 version front
  pub other : version ≢ 5
  pub unread : older_size dialect version ≡ None

-- u is a header and a program
pub record IsOwnUnit (dialect : Dialect) (h : HeaderData) (p : List Operation) (u : List ℕ) : Type 0 where
  pub its_length : HasItsLength dialect.order u
  pub header : List ℕ
  pub program : List ℕ
  pub whole : u ≡ header ++ program
  pub spells_header : IsHeader dialect h header
  pub spells_program : SpellsProgram dialect.order h.params p program

-- u is one unit
abbrev pub IsUnit : Dialect → List ℕ → Type 0
IsUnit dialect u =
    ((version : ℕ) × IsForeignUnit dialect version u)
    ⊎ ((h : HeaderData) × (p : List Operation) × IsOwnUnit dialect h p u)

-- ---- what bytes come to, computed

-- the rows of the operations that are complete in the bytes of a program
abbrev pub rows_in : Order → Params → List ℕ → List Row
rows_in order h program = matrix h (operations_in order h program).found

abbrev pub rows_later : Order → Option (HeaderData × List ℕ) → List Row
rows_later order None = []
rows_later order (Some (h, program)) = rows_in order h.params program

-- the rows in b, which has none until its header is complete
abbrev pub unit_rows : Dialect → List ℕ → List Row
unit_rows dialect b = rows_later dialect.order (header_in dialect b)

-- there is a row, and the last one isn't an end row
abbrev pub ends_open : List Row → Bool
ends_open [] = false
ends_open (r ∷ []) = not r.end_sequence
ends_open (r ∷ s ∷ rows) = ends_open (s ∷ rows)

abbrev pub own_events : Order → Option (HeaderData × List ℕ) → List Event
own_events order None = []
own_events order (Some parts) = event.Header ∷ map event.Row (rows_later order (Some parts))

abbrev pub events_of : Order → Option ℕ → Option (HeaderData × List ℕ) → List Event
events_of order (Some version) parts = event.Foreign version ∷ []
events_of order None parts = own_events order parts

-- what b comes to, which goes no further than its unit, and of which no front is refused
abbrev pub events : Dialect → List ℕ → List Event
events dialect b = events_of dialect.order (foreign_in dialect b) (header_in dialect b)
