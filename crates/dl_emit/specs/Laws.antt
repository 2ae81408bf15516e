-- Laws of the definitions of what is written.
use Rattle.dl_head.specs.declared.dialect.Dialect.{Dialect}
use Rattle.std.specs.Prelude.{◌≡◌, ◌^◌, ◌<◌, List, [], ◌∷◌, map, length, Some, None}
use Rattle.std.specs.Int.{w8}
use Rattle.std.specs.Int.RustNames.{FitsSigned}
use Rattle.std.specs.List.{AllByRecursion}
use Rattle.dl_num.specs.declared.fixed.Order.{Order}
use Rattle.dl_field.specs.declared.params.Params.{Params}
use Rattle.dl_field.specs.HeaderData.{HeaderData}
use Rattle.dl_field.specs.Usable.{IsUsable}
use Rattle.dl_head.specs.Header.{unit_len, header_in}
use Rattle.dl_head.specs.Sound.{IsSoundHeader}
use Rattle.dl_rows.specs.declared.row.Row.{Row}
use Rattle.dl_rows.specs.declared.reader.Event.TheVariants as event
use Rattle.dl_rows.specs.LineUnit.{IsOwnUnit, events}
use Rattle.dl_rows.specs.Spelling.{SpellsProgram}
use Rattle.dl_rows.specs.OperationSpelt.{operations_in}
use Rattle.dl_rows.specs.Matrix.{matrix}
use Rattle.dl_emit.specs.WrittenUnit.{unit_of, program_bytes, rows_refusal, refusal}

-- the numbers of a row have 64 bits, its op_index 8
pub record IsRow (r : Row) : Type 0 where
  pub file : r.file < 2 ^ 64
  pub line : r.line < 2 ^ 64
  pub column : r.column < 2 ^ 64
  pub isa : r.isa < 2 ^ 64
  pub discriminator : r.discriminator < 2 ^ 64
  pub op_index : r.op_index < 2 ^ 8

-- the params of a header, whose line_base is one byte
pub record IsParams (h : Params) : Type 0 where
  pub usable : IsUsable h
  pub line_base : FitsSigned w8 h.line_base

-- the bytes that are written for rows are a program, and are read again as its operations to the last byte, whose rows
-- are the same
pub record IsReadAgain (order : Order) (h : Params) (rows : List Row) : Type 0 where
  pub spells : SpellsProgram order h (operations_in order h (program_bytes order h rows)).found
      (program_bytes order h rows)
  pub all : (operations_in order h (program_bytes order h rows)).rest ≡ []
  pub same : matrix h (operations_in order h (program_bytes order h rows)).found ≡ rows

-- so it is of all rows that aren't refused
abbrev pub ProgramIsReadAgain : Type 0
ProgramIsReadAgain =
    (order : Order) (h : Params) (rows : List Row) → IsParams h → AllByRecursion IsRow rows → rows_refusal h rows ≡ None
    → IsReadAgain order h rows

-- the bytes that are written for a header and rows are a unit of this header, and come to it and exactly these rows
pub record IsUnitAgain (dialect : Dialect) (h : HeaderData) (rows : List Row) : Type 0 where
  pub unit : IsOwnUnit dialect h (operations_in dialect.order h.params
      (program_bytes dialect.order h.params rows)).found
      (unit_of dialect.order h rows)
  pub events_are : events dialect (unit_of dialect.order h rows) ≡ event.Header ∷ map event.Row rows
  pub whole : unit_len dialect (unit_of dialect.order h rows) ≡ Some (length (unit_of dialect.order h rows))
  pub header : header_in dialect (unit_of dialect.order h rows) ≡ Some (h, program_bytes dialect.order h.params rows)
  pub program : IsReadAgain dialect.order h.params rows

-- so it is of all units that aren't refused
abbrev pub UnitIsReadAgain : Type 0
UnitIsReadAgain =
    (dialect : Dialect) (h : HeaderData) (rows : List Row) → IsSoundHeader h → AllByRecursion IsRow rows
    → refusal h rows ≡ None → IsUnitAgain dialect h rows
