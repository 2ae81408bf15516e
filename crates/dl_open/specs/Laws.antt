-- Laws of what is looked into of files.
use Rattle.std.specs.Prelude.{ℕ, ◌≤◌, length}
use Rattle.std.specs.Option.{option_map_or}
use Rattle.dl_file.specs.InfoTable.{InfoTable}
use Rattle.dl_open.specs.Directories.{info_size, said_in}

-- a directory that the units of a file say has no more bytes than the sections by which it is known
abbrev pub DirectoriesAreShort : Type 0
DirectoriesAreShort = (t : InfoTable) (offset : ℕ) → option_map_or length (said_in t offset) 0 ≤ info_size t
