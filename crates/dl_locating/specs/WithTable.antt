-- What the program does with what is asked of a line table with what its file tells beside it. bytes: what was read of the
-- input, which has `left` left. start, now: what the output held at first, and holds now. held: what the file of a path
-- holds, where that is known; fails: the errors that opening and reading it may give. refuses: for how many items memory is
-- refused.
use Rattle.std.specs.Prelude.{◌≡◌, ◌⊎◌, ℕ, Bool, true, false, not, ◌&&◌, List, [], Option, None, Some, is_none}
use Rattle.std.specs.Prelude.{MatchOption, Result, Ok, Err, option_map}
use Rattle.std.specs.Borrow.{Bor}
use Rattle.std.specs.Option.{option_copied}
use Rattle.std.specs.Io.KnownBytes.{Keeps}
use Rattle.std.specs.declared.io.Error.{Error}
use Rattle.dl_addr.specs.Code.{is_code}
use Rattle.dl_cmd.specs.Job.{Text, UnitTexts, unit_words_made}
use Rattle.dl_dirs.specs.Compilation.{directory_by}
use Rattle.dl_dirs.specs.declared.compilation.CompilationDirectories.{CompilationDirectories}
use Rattle.dl_elf.specs.Source.{ForBytes}
use Rattle.dl_file.specs.Code.{IsCode}
use Rattle.dl_file.specs.declared.code.Code.{Code}
use Rattle.dl_look.specs.declared.code_ranges.CodeRanges.{CodeRanges}
use Rattle.dl_open.specs.Code.{live_by}
use Rattle.dl_open.specs.Files.{FilesStop}
use Rattle.dl_open.specs.Stops.{IsAt}
use Rattle.dl_open.specs.declared.fault.FileFault.{FileFault}
use Rattle.dl_open.specs.declared.stop.FileStop.{FileStop}
use Rattle.dl_sections.specs.declared.around.Survey.{Survey}
use Rattle.dl_sections.specs.declared.fault.RunFault.TheVariants as fault
use Rattle.dl_program.specs.Asked.{SectionWords}
use Rattle.dl_program.specs.Damages.{unheard}
use Rattle.dl_program.specs.Stops.{over_file, stop_of}
use Rattle.dl_program.specs.Tables.{OnFile}
use Rattle.dl_program.specs.Units.{file_units, is_size}
use Rattle.dl_program.specs.Work.{OnInput, StopsBefore}
use Rattle.dl_program.specs.declared.command.Command.{Command}
use Rattle.dl_program.specs.declared.command.Command.TheVariants as command
use Rattle.dl_program.specs.declared.stop.Stop.{Stop}
use Rattle.dl_program.specs.declared.stop.Stop.TheVariants.{NotUnderstood, Run}
use Rattle.dl_locating.specs.Compiled.{AreFound, RefusesOpening, compiled_by}
use Rattle.dl_locating.specs.declared.with_table.TableWords.{TableWords}
use Rattle.dl_locating.specs.declared.with_table.Wish.{Wish}
use Rattle.dl_locating.specs.declared.with_table.Wish.TheVariants.{Lines, Sources}

-- what the words say of the line table, by their texts; file: None where the section comes on the input
pub record TableTexts : Type 0 where
  pub file : Option Text
  pub all : Bool
  pub section : Option Text
  pub big : Bool
  pub units : UnitTexts
  pub comp_dir : Option Text
  pub line_str : Option Text
  pub strings : Option Text

abbrev pub table_seen : TableWords → TableTexts
table_seen w = record {
  file = option_map (λ s. s.now) w.file;
  all = w.all;
  section = option_map (λ s. s.now) w.section;
  big = w.big;
  units = unit_words_made w.units;
  comp_dir = option_map (λ s. s.now) w.comp_dir;
  line_str = option_map (λ s. s.now) w.line_str;
  strings = option_map (λ s. s.now) w.strings;
}

-- the command that answers a wish, where there is this code, of units that were compiled in these directories
abbrev pub command_for : Wish → Option (Bor CodeRanges) → CompilationDirectories → Command
command_for (Lines wanted exact true) code directories =
    command.Lines (record { wanted = wanted; exact = exact; code = code; directories = directories })
command_for (Lines wanted exact false) code directories =
    command.LinesAround (record { wanted = wanted; exact = exact; code = code; directories = directories })
command_for (Sources rows md5 json (Some unit) keep_going) code directories =
    command.SourcesUnit (record { rows = rows; md5 = md5; json = json; code = code; directories = directories }) unit
command_for (Sources rows md5 json None true) code directories =
    command.SourcesAround (record { rows = rows; md5 = md5; json = json; code = code; directories = directories })
command_for (Sources rows md5 json None false) code directories =
    command.Sources (record { rows = rows; md5 = md5; json = json; code = code; directories = directories })

-- ---- a section on the input, of which nothing is said that is so of a file alone

abbrev pub suits_input : TableTexts → Bool
suits_input w =
    is_none w.section && (not w.units.version_5 && (is_none w.units.address_size && is_size w.units.older))

abbrev pub section_in : TableTexts → SectionWords
section_in w = record { big = w.big; older = w.units.older; line_str = w.line_str; strings = w.strings }

-- each sequence counts; paths stand where the words say that the units were compiled
abbrev pub InputRead : (refuses : ℕ → Type 0) → (held : Text → Option (List ℕ)) (fails : Text → Error → Type 0) → TableTexts → Wish
    → (bytes : List ℕ) (left start now : Option (List ℕ)) → Result Survey Stop → Type 0
InputRead refuses held fails w wish bytes left start now result =
    ((suits_input w ≡ false) × StopsBefore bytes start now result NotUnderstood)
    ⊎ ((suits_input w ≡ true) × (directories : CompilationDirectories)
    × ((n : ℕ) → directory_by directories n ≡ w.comp_dir)
    × OnInput refuses held fails (section_in w) (command_for wish None directories) bytes left start now unheard result)

-- ---- the ELF file of a path, beside which nothing is said of a section on the input. f: its bytes

abbrev pub suits_file : TableTexts → Bool
suits_file w =
    not w.big && (is_none w.line_str && (is_none w.strings && (is_none w.units.older && is_size w.units.address_size)))

-- it can't be told where it has code, or where its units were compiled, and nothing is written; or the command is done:
-- sequences count that begin where there is code, or all that are asked for; paths stand where the words say that the units
-- were compiled, or else the file
abbrev pub OpenRead : (refuses : ℕ → Type 0) → (fails : Error → Type 0) → (path : Text) → TableTexts → Wish → (f : List ℕ)
    → (start now : Option (List ℕ)) → Result Survey Stop → Type 0
OpenRead refuses fails path w wish f start now result =
    ((stop : FileStop) × (fault : FileFault) × RefusesOpening refuses (is_none w.comp_dir) fails f fault
    × IsAt path fault stop × (result ≡ Err (stop_of stop)) × Keeps start now)
    ⊎ ((executable : Code) × IsCode f (Ok executable)
    × (found : ℕ → Option (List ℕ)) × AreFound (is_none w.comp_dir) f found
    × (code : Option (Bor CodeRanges)) × (directories : CompilationDirectories)
    × ((a : ℕ) → is_code (option_copied code) a ≡ live_by w.all executable a)
    × ((n : ℕ) → directory_by directories n ≡ compiled_by w.comp_dir found n)
    × (answer : Result Survey FileStop)
    × OnFile refuses (file_units w.units) fails path w.section (command_for wish code directories) f start now unheard answer
    × (result ≡ over_file answer))

abbrev pub TableFileRead : (refuses : ℕ → Type 0) → (held : Text → Option (List ℕ)) (fails : Text → Error → Type 0) → (path : Text)
    → TableTexts → Wish → (start now : Option (List ℕ)) → Result Survey Stop → Type 0
TableFileRead refuses held fails path w wish start now result =
    ((suits_file w ≡ false) × (result ≡ Err NotUnderstood) × Keeps start now)
    ⊎ ((suits_file w ≡ true) × ForBytes (held path) (λ f. OpenRead refuses (fails path) path w wish f start now result))

-- ---- by the words: of a file nothing is read of the input

abbrev pub TableRead : (refuses : ℕ → Type 0) → (held : Text → Option (List ℕ)) (fails : Text → Error → Type 0) → TableTexts → Wish
    → (bytes : List ℕ) (left start now : Option (List ℕ)) → Result Survey Stop → Type 0
TableRead refuses held fails w wish bytes left start now result =
    MatchOption w.file (InputRead refuses held fails w wish bytes left start now result)
    (λ path. (bytes ≡ []) × TableFileRead refuses held fails path w wish start now result)

-- a read of the section on the input is blamed, whose string sections can be read
abbrev pub BlamesSection : {A : Type 0} → (refuses : ℕ → Type 0) → (held : Text → Option (List ℕ)) (fails : Text → Error → Type 0)
    → TableTexts → Result A Stop → Type 0
BlamesSection refuses held fails w result =
    (result ≡ Err (Run fault.Read)) × ¬ FilesStop refuses held fails w.line_str w.strings fault.Read

-- the same, where no file is named
abbrev pub BlamesTable : {A : Type 0} → (refuses : ℕ → Type 0) → (held : Text → Option (List ℕ)) (fails : Text → Error → Type 0)
    → TableTexts → Result A Stop → Type 0
BlamesTable refuses held fails w result = (w.file ≡ None) × BlamesSection refuses held fails w result
