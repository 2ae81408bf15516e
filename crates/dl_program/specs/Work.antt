-- What the program does for a request. bytes: what was read of the input, which has `left` left. start, now: what the
-- output held at first, and holds now. hears: which damaged units were told of. held: what the file of a path holds,
-- where that is known; fails: the errors that opening and reading it may give. refuses: for how many items memory is
-- refused.
use Rattle.std.specs.Prelude.{◌≡◌, ◌⊎◌, ℕ, Bool, true, false, List, [], Option, Some, None, MatchOption, Result, Ok, Err}
use Rattle.std.specs.Io.KnownBytes.{Keeps}
use Rattle.std.specs.declared.io.Error.{Error}
use Rattle.dl_dirs.specs.Compilation.{directory_by}
use Rattle.dl_dirs.specs.declared.compilation.CompilationDirectories.{CompilationDirectories}
use Rattle.dl_elf.specs.Source.{ForBytes}
use Rattle.dl_elf.specs.declared.fault.ElfFault.{ElfFault}
use Rattle.dl_sections.specs.declared.options.TheConstants.{SECTION_LIMIT}
use Rattle.dl_sections.specs.declared.fault.RunFault.{RunFault}
use Rattle.dl_sections.specs.declared.fault.RunFault.TheVariants as fault
use Rattle.dl_sections.specs.declared.around.Damage.{Damage}
use Rattle.dl_sections.specs.declared.around.Survey.{Survey}
use Rattle.dl_cmd.specs.Job.{Request, Text}
use Rattle.dl_print.specs.ValueText.{Strings}
use Rattle.dl_open.specs.declared.stop.FileStop.{FileStop}
use Rattle.dl_open.specs.Directories.{AreDirectories, RefusesDirectories}
use Rattle.dl_open.specs.Files.{FilesStop, StringsAre}
use Rattle.dl_open.specs.Stops.{IsAt}
use Rattle.dl_open.specs.declared.fault.FileFault.TheVariants.{Elf, Open}
use Rattle.dl_program.specs.declared.command.Command.{Command}
use Rattle.dl_program.specs.declared.stop.Stop.{Stop}
use Rattle.dl_program.specs.declared.stop.Stop.TheVariants.{NotUnderstood, Run}
use Rattle.dl_program.specs.Asked.{Does, Outcome, SectionWords, command_of, command_seen, file_of, dialect_of}
use Rattle.dl_program.specs.Asked.{part_name_of, section_of}
use Rattle.dl_program.specs.Shown.{under, wants_directories}
use Rattle.dl_program.specs.Stops.{over_file}
use Rattle.dl_program.specs.Tables.{OnFile, StopsEarly}
use Rattle.dl_open.specs.declared.dialect.FileUnits.{FileUnits}
use Rattle.dl_program.specs.Units.{file_units, units_of}

-- the program stops before its command: nothing is read of the input, and nothing written
abbrev pub StopsBefore : {A : Type 0} → (bytes : List ℕ) (start now : Option (List ℕ)) (result : Result A Stop) → Stop
    → Type 0
StopsBefore bytes start now result stop = (result ≡ Err stop) × (bytes ≡ []) × Keeps start now

-- the same, and no damaged unit is told of
abbrev pub StopsUntold : {A : Type 0} → (bytes : List ℕ) (start now : Option (List ℕ)) (hears : List Damage → Type 0)
    (result : Result A Stop) → Stop → Type 0
StopsUntold bytes start now hears result stop = StopsBefore bytes start now result stop × hears []

-- a command's answer, its fault being the reason to stop
abbrev pub stopped : {A : Type 0} → Result A RunFault → Result A Stop
stopped (Ok answered) = Ok answered
stopped (Err f) = Err (Run f)

-- over a section on the input: the command is done with the string sections that are named, unless these stop the
-- program
abbrev pub OnInput : (refuses : ℕ → Type 0) → (held : Text → Option (List ℕ)) (fails : Text → Error → Type 0) → SectionWords
    → Command → (bytes : List ℕ) (left : Option (List ℕ)) → Outcome Stop
OnInput refuses held fails section command bytes left start now hears result =
    ((s : Strings) × StringsAre held section.line_str section.strings s
    × (answer : Result Survey RunFault) × (result ≡ stopped answer)
    × Does refuses command (dialect_of section) s SECTION_LIMIT bytes left start now hears answer)
    ⊎ ((f : RunFault) × FilesStop refuses held fails section.line_str section.strings f
    × StopsUntold bytes start now hears result (Run f))

-- over an open file. f: its bytes
abbrev pub OpenedWhere : (refuses : ℕ → Type 0) → (wants_directories : Bool) → FileUnits → (fails : Error → Type 0) → Text
    → (name : Option Text) → Command → (f : List ℕ) → Outcome FileStop
OpenedWhere refuses false units fails path name command f start now hears result =
    OnFile refuses units fails path name command f start now hears result
-- the directories that it says are found, unless a read fails or memory is refused
OpenedWhere refuses true units fails path name command f start now hears result =
    ((stop : FileStop) × (fault : ElfFault) × (result ≡ Err stop) × RefusesDirectories refuses fails f fault
    × IsAt path (Elf fault) stop × Keeps start now × hears [])
    ⊎ ((found : ℕ → Option (List ℕ)) × AreDirectories f found × (directories : CompilationDirectories)
    × ((n : ℕ) → directory_by directories n ≡ found n)
    × OnFile refuses units fails path name (under command directories) f start now hears result)

abbrev pub OnOpened : (refuses : ℕ → Type 0) → FileUnits → (fails : Error → Type 0) → Text → (name : Option Text) → Command
    → (f : List ℕ) → Outcome FileStop
OnOpened refuses units fails path name command f =
    OpenedWhere refuses (wants_directories command) units fails path name command f

-- the file at a path can't be opened
abbrev pub IsNotOpen : (fails : Error → Type 0) → Text → FileStop → Type 0
IsNotOpen fails path stop = (error : Error) × fails error × IsAt path (Open error) stop

-- over the file at a path, which can't be opened or is open then. f: its bytes
abbrev pub OnHeld : (refuses : ℕ → Type 0) → FileUnits → (fails : Error → Type 0) → Text → (name : Option Text) → Command
    → (f : List ℕ) → Outcome FileStop
OnHeld refuses units fails path name command f start now hears result =
    StopsEarly refuses command (IsNotOpen fails path) start now hears result
    ⊎ OnOpened refuses units fails path name command f start now hears result

-- over the ELF file of a path: nothing is read of the input. units: which units are read; name: the section that is
-- looked into
abbrev pub OnNamed : (refuses : ℕ → Type 0) → (held : Text → Option (List ℕ)) (fails : Text → Error → Type 0) → FileUnits → Text
    → (name : Option Text) → Command → (bytes : List ℕ) → Outcome Stop
OnNamed refuses held fails units path name command bytes start now hears result =
    (bytes ≡ []) × (answer : Result Survey FileStop) × (result ≡ over_file answer)
    × ForBytes (held path) (λ f. OnHeld refuses units (fails path) path name command f start now hears answer)

-- what is done for a request
abbrev pub Works : (refuses : ℕ → Type 0) → (held : Text → Option (List ℕ)) (fails : Text → Error → Type 0) → Option Request
    → (bytes : List ℕ) (left : Option (List ℕ)) → Outcome Stop
Works refuses held fails None bytes left start now hears result = StopsUntold bytes start now hears result NotUnderstood
Works refuses held fails (Some request) bytes left start now hears result =
    MatchOption (command_of request) (StopsUntold bytes start now hears result NotUnderstood)
    (λ seen. (command : Command) × (command_seen command ≡ seen)
    × MatchOption (file_of request) (OnInput refuses held fails (section_of request) command bytes left start now hears result)
    (λ path. OnNamed refuses held fails (file_units (units_of request)) path (part_name_of request) command bytes start now
    hears result))

-- a read of the input is blamed: by a request that names no file, whose string sections can be read
abbrev pub BlamesInput : {A : Type 0} → (refuses : ℕ → Type 0) → (held : Text → Option (List ℕ)) (fails : Text → Error → Type 0)
    → Option Request → Result A Stop → Type 0
BlamesInput refuses held fails None result = ⊥
BlamesInput refuses held fails (Some request) result = (result ≡ Err (Run fault.Read)) × (file_of request ≡ None)
    × ¬ FilesStop refuses held fails (section_of request).line_str (section_of request).strings fault.Read
