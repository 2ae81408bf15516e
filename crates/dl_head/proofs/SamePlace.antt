-- A reader with other counts, whose place is the same.
use Rattle.std.proofs.Common.{◌≡◌, ℕ, ◌≤◌, ◌^◌, true, length}
use Rattle.dl_num.specs.Fixed.{is_number_size}
use Rattle.dl_head.specs.declared.reader.HeadReader.{HeadReader}
use Rattle.dl_head.specs.Built.{is_version}
use Rattle.dl_head.specs.HeadStep.{end_near, lengths_fit, operations_fit, tables_fit, formats_fit, AreStandard}
use Rattle.dl_table.specs.TableCells.{table_cells}
use Rattle.dl_head.specs.TableSpelt.{TableStands}
use Rattle.dl_head.specs.ListSpelt.{ListReads}

-- the ghost fields of a reader, which each write proves anew
pub record Guards (r : HeadReader) : Type 0 where
  pub short : r.unit_length ≤ 2 ^ 40
  pub near : end_near r.end ≡ true
  pub address_size : is_number_size r.params.address_size ≡ true
  pub version : is_version r.params.version ≡ true
  pub operations : operations_fit r.phase r.params.version r.params.maximum_operations_per_instruction ≡ true
  pub lines : 1 ≤ r.params.line_range
  pub lengths : lengths_fit r.phase (length r.params.lengths.items) r.params.opcode_base ≡ true
  pub tables : tables_fit r.phase (table_cells r.directories) (table_cells r.files) ≡ true
  pub formats : formats_fit r.phase r.params.format r.directories.format r.files.format ≡ true
  pub standard : AreStandard r.params.lengths.items
  pub read : ∥ TableStands r.phase r.dialect.order r.params.format r.table ∥₁
  pub listed : ∥ ListReads r.list ∥₁

abbrev pub counted : (r : HeadReader) → Guards r → ℕ → ℕ → HeadReader
counted r g start taken = record r {
  short = g.short;
  near = g.near;
  address_size = g.address_size;
  version = g.version;
  operations = g.operations;
  lines = g.lines;
  lengths = g.lengths;
  tables = g.tables;
  formats = g.formats;
  standard = g.standard;
  read = g.read;
  listed = g.listed;
  start = start;
  taken = taken;
}
