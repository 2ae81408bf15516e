-- A program that grows by rows. DWARF 5, section 6.2.5.
use Rattle.std.specs.Prelude.{◌≡◌, ℕ, List, [], ◌∷◌, ◌++◌, length, Option, None}
use Rattle.std.specs.Option.{option_map}
use Rattle.std.specs.List.{AllByRecursion}
use Rattle.dl_num.specs.declared.fixed.Order.{Order}
use Rattle.dl_field.specs.declared.params.Params.{Params}
use Rattle.dl_rows.specs.declared.row.Row.{Row}
use Rattle.dl_emit.specs.declared.fault.EmitFault.TheVariants as fault
use Rattle.dl_emit.specs.Program.{kept}
use Rattle.dl_emit.specs.WrittenUnit.{out_of_range, program_bytes}
use Rattle.dl_emit.specs.Laws.{IsRow}

-- what is kept of the rows of a program
pub record ProgramData : Type 0 where
  pub order : Order
  pub params : Params
  -- the last row, where its sequence goes on
  pub before : Option Row
  -- how many rows there are
  pub rows : ℕ
  -- the place of the first row that is out of range
  pub refused : Option ℕ
  -- what is written for the rows, in two parts
  pub first : List ℕ
  pub last : List ℕ

-- the row before the one after these, b being that before them
abbrev pub before_next : Option Row → List Row → Option Row
before_next b [] = b
before_next b (r ∷ rows) = before_next (kept r) rows

-- the bytes of the rows are held
pub record HoldsRows (p : ProgramData) (rows : List Row) : Type 0 where
  pub bytes : p.first ++ p.last ≡ program_bytes p.order p.params rows
  pub before : p.before ≡ before_next None rows
  pub count : p.rows ≡ length rows
  pub each : AllByRecursion IsRow rows

-- It grew by these rows, under these params, whose opcode_base is 13: the first row that is out of range is known, or
-- all are held.
pub record IsGrown (p : ProgramData) (order : Order) (h : Params) (rows : List Row) : Type 0 where
  pub order_is : p.order ≡ order
  pub params_are : p.params ≡ h
  pub standard : h.opcode_base ≡ 13
  pub refused : option_map fault.RowRange p.refused ≡ out_of_range h 0 rows
  pub holds : p.refused ≡ None → HoldsRows p rows
