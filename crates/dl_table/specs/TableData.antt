-- What a table says, as contracts see it. DWARF 5, section 6.2.4.1.
use Rattle.std.specs.Prelude.{List}
use Rattle.dl_table.specs.declared.form.Format.{Format}
use Rattle.dl_table.specs.declared.table.Pair.{Pair}
use Rattle.dl_table.specs.Value.{Value}

-- a table of directories or files: its format, and each entry's values in the order of the pairs
pub record TableData : Type 0 where
  pub format : Format
  pub pairs : List Pair
  pub entries : List (List Value)
