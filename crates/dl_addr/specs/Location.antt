-- What is told of an address. DWARF 5, section 6.2.2.
use Rattle.std.specs.Prelude.{ℕ, Bool, List, Option}
use Rattle.dl_rows.specs.declared.row.Row.{Row}

-- the offset of the unit in the line section, the whole path of the file under the compilation directory, as far as it is
-- known, and what stands in the row
pub record Location : Type 0 where
  pub unit : ℕ
  pub path : Option (List ℕ)
  pub line : ℕ
  pub column : ℕ
  pub discriminator : ℕ
  pub is_stmt : Bool

-- of this row of the unit at that offset, whose file has this path
abbrev pub location_at : Row → (unit : ℕ) → (path : Option (List ℕ)) → Location
location_at r unit path = record {
  unit = unit;
  path = path;
  line = r.line;
  column = r.column;
  discriminator = r.discriminator;
  is_stmt = r.is_stmt;
}
