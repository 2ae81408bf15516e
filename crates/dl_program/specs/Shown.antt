-- What `dump` shows, as it is asked for and by the directories in which units were compiled. DWARF 5, section 3.1.1.
use Rattle.std.specs.Prelude.{Bool, true, false, ◌&&◌, Option}
use Rattle.dl_cmd.specs.Job.{Text}
use Rattle.std.specs.Option.{option_map_or}
use Rattle.dl_dirs.specs.declared.compilation.CompilationDirectories.{CompilationDirectories}
use Rattle.dl_dirs.specs.declared.compilation.CompilationDirectories.TheVariants as directories
use Rattle.dl_dump.specs.declared.details.Details.{Details}
use Rattle.dl_program.specs.declared.command.Command.{Command}
use Rattle.dl_program.specs.declared.command.Command.TheVariants.{Dump, DumpAround, DumpRange, DumpRangeAround, DumpUnit}

-- what is known of the directories
pub data KnownDirectories : Type 0 where
  unknown : KnownDirectories
  said : Text → KnownDirectories
  found : KnownDirectories

abbrev pub directories_seen : CompilationDirectories → KnownDirectories
directories_seen directories.Unknown = unknown
directories_seen (directories.Said directory) = said directory.now
directories_seen (directories.Found those) = found

-- that of the words
abbrev pub directories_asked : (comp_dir : Option Text) → KnownDirectories
directories_asked comp_dir = option_map_or said comp_dir unknown

pub record ShownTexts : Type 0 where
  pub header : Bool
  pub operations : Bool
  pub paths : Bool
  pub directories : KnownDirectories

abbrev pub shown_seen : Details → ShownTexts
shown_seen d = record {
  header = d.header;
  operations = d.operations;
  paths = d.paths;
  directories = directories_seen d.directories;
}

-- ---- over a file, whose directories count where paths are shown and none is said

abbrev pub is_unknown : CompilationDirectories → Bool
is_unknown directories.Unknown = true
is_unknown other = false

abbrev pub shows_found_paths : Details → Bool
shows_found_paths d = d.paths && is_unknown d.directories

abbrev pub wants_directories : Command → Bool
wants_directories (Dump d) = shows_found_paths d
wants_directories (DumpAround d) = shows_found_paths d
wants_directories (DumpUnit d unit) = shows_found_paths d
wants_directories (DumpRange d range) = shows_found_paths d
wants_directories (DumpRangeAround d range) = shows_found_paths d
wants_directories other = false

-- the same command, of units that were compiled in these
abbrev pub under : Command → CompilationDirectories → Command
under (Dump d) directories = Dump (record d { directories = directories })
under (DumpAround d) directories = DumpAround (record d { directories = directories })
under (DumpUnit d unit) directories = DumpUnit (record d { directories = directories }) unit
under (DumpRange d range) directories = DumpRange (record d { directories = directories }) range
under (DumpRangeAround d range) directories = DumpRangeAround (record d { directories = directories }) range
under other directories = other
