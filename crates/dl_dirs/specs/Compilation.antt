-- What is known of the directories in which units were compiled. DWARF 5, section 3.1.1.
use Rattle.std.specs.Prelude.{ℕ, List, Option, Some, None}
use Rattle.dl_dirs.specs.declared.compilation.CompilationDirectories.{CompilationDirectories}
use Rattle.dl_dirs.specs.declared.compilation.CompilationDirectories.TheVariants.{Unknown, Said, Found}
use Rattle.dl_dirs.specs.Directories.{directory_at}

-- that of the unit at this offset, if it is known
abbrev pub directory_by : CompilationDirectories → (unit : ℕ) → Option (List ℕ)
directory_by Unknown unit = None
directory_by (Said directory) unit = Some directory.now
directory_by (Found directories) unit = directory_at directories.now unit
