-- What a header says, as contracts see it. DWARF 5, section 6.2.4.
use Rattle.std.specs.Prelude.{ℕ, ◌+◌}
use Rattle.dl_field.specs.declared.params.Params.{Params}
use Rattle.dl_table.specs.TableData.{TableData}
use Rattle.dl_table.specs.TableCells.{table_cells}

pub record HeaderData : Type 0 where
  pub params : Params
  pub directories : TableData
  pub files : TableData

-- how many cells its tables hold
abbrev pub header_cells : HeaderData → ℕ
header_cells h = table_cells h.directories + table_cells h.files
