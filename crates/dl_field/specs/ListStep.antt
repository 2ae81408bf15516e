-- What an older table has by its kind, and what its reader's phases say. No promise rests on how this is said.
use Rattle.std.specs.Prelude.{ℕ, List}
use Rattle.dl_table.specs.declared.table.Pair.{Pair}
use Rattle.dl_field.specs.Layout.{listed_directory, listed_file}
use Rattle.dl_field.specs.declared.list_reader.ListKind.{ListKind}
use Rattle.dl_field.specs.declared.list_reader.ListKind.TheVariants as kind
use Rattle.dl_field.specs.declared.list_reader.ListPhase.{ListPhase}
use Rattle.dl_field.specs.declared.list_reader.ListPhase.TheVariants as phase

-- what each entry says
abbrev pub listed : ListKind → List Pair
listed kind.Directories = listed_directory
listed kind.Files = listed_file

-- where the current path begins in the pool
abbrev pub path_start : ListPhase → ℕ
path_start (phase.Path start) = start
path_start p = 0

-- the pairs come with the last byte
abbrev pub most_pairs : ListPhase → ℕ
most_pairs phase.Whole = 4
most_pairs p = 0
