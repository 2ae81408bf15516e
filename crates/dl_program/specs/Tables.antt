-- What the program does with the ELF file of a path. f: its bytes; t: its line table as dl_file defines it. start, now:
-- what the output held at first, and holds now. hears: which damaged units were told of. units: which units of the file
-- are read. refuses: for how many items memory is refused.
use Rattle.std.specs.Prelude.{◌≡◌, ◌⊎◌, ℕ, Bool, true, false, ◌&&◌, List, [], Option, Some, None, Result, Ok, Err}
use Rattle.std.specs.Prelude.{MatchResult}
use Rattle.std.specs.Io.KnownBytes.{Consumes}
use Rattle.std.specs.declared.io.Error.{Error}
use Rattle.dl_cmd.specs.Job.{Text}
use Rattle.dl_file.specs.LineTable.{LineTable, Plain}
use Rattle.dl_sections.specs.declared.options.TheConstants.{SECTION_LIMIT}
use Rattle.dl_sections.specs.declared.fault.RunFault.{RunFault}
use Rattle.dl_sections.specs.declared.around.Damage.{Damage}
use Rattle.dl_sections.specs.declared.around.Survey.{Survey}
use Rattle.dl_print.specs.ValueText.{Strings}
use Rattle.dl_open.specs.declared.dialect.FileUnits.{FileUnits}
use Rattle.dl_open.specs.declared.fault.FileFault.TheVariants.{ObjectCopy}
use Rattle.dl_open.specs.declared.object_part.Part.{Part}
use Rattle.dl_open.specs.declared.stop.FileStop.{FileStop}
use Rattle.dl_open.specs.Parts.{IsPart, PartStops}
use Rattle.dl_open.specs.Stops.{IsAt, StopsAt, Stream}
use Rattle.dl_open.specs.Tables.{HasNoDamage, HasTable, IsKept, IsWhole, KeepingStops, StringsStop, TableStops, file_dialect}
use Rattle.dl_open.specs.Tables.{bytes_of, stream_of}
use Rattle.dl_program.specs.declared.command.Command.{Command}
use Rattle.dl_program.specs.Asked.{Does, Outcome, WithoutTable, is_copy, looks_up, sections_of}
use Rattle.dl_program.specs.Whole.{HasReadAll}

-- ---- the command over the line section. fails: the errors that opening and reading the file may give

-- the program answers what its command answered
abbrev pub EndsAt : {A : Type 0} → (fails : Error → Type 0) (path : Text) (stream : Option Stream) → Result A RunFault
    → Result A FileStop → Type 0
EndsAt fails path stream answer result = MatchResult answer (λ answered. result ≡ Ok answered)
    (λ f. (stop : FileStop) × (result ≡ Err stop) × StopsAt fails path stream f stop)

-- the command is done, over the bytes of the line section in the file's order, with the file's string sections. read:
-- the bytes that it read, of which `left` are left
pub record RunsOn (refuses : ℕ → Type 0) (units : FileUnits) (fails : Error → Type 0) (path : Text) (command : Command) (t : LineTable)
    (start now : Option (List ℕ)) (hears : List Damage → Type 0) (result : Result Survey FileStop) : Type 0 where
  pub strings : Strings
  pub whole : IsWhole t.line_str t.str strings
  pub read : List ℕ
  pub left : Option (List ℕ)
  pub bytes : Consumes (Some (bytes_of t.line)) left read
  pub answer : Result Survey RunFault
  pub done : Does refuses command (file_dialect units t) strings SECTION_LIMIT read left start now hears answer
  pub ends : EndsAt fails path (stream_of t.line) answer result
  pub undamaged : HasReadAll command answer → HasNoDamage t.line

-- the table with these bytes of its line section
abbrev pub with_bytes : LineTable → List ℕ → LineTable
with_bytes t bytes = record t { line = Plain bytes }

-- ---- the command over the line section, or over a part of it

-- the program stops before its command
abbrev pub StopsEarly : (refuses : ℕ → Type 0) → Command → (FileStop → Type 0) → Outcome FileStop
StopsEarly refuses command Reason start now hears result =
    (stop : FileStop) × (result ≡ Err stop) × Reason stop × WithoutTable refuses command start now × hears []

abbrev pub OnLines : (refuses : ℕ → Type 0) → FileUnits → (fails : Error → Type 0) (path : Text) → Command → LineTable → Option Part → Outcome FileStop
OnLines refuses units fails path command t None start now hears result = RunsOn refuses units fails path command t start now hears result
OnLines refuses units fails path command t (Some part) start now hears result =
    StopsEarly refuses command (KeepingStops refuses fails path (file_dialect units t) part t.line) start now hears result
    ⊎ ((kept : List ℕ) × IsKept (file_dialect units t) part t.line kept
    × RunsOn refuses units fails path command (with_bytes t kept) start now hears result)

-- an object file isn't copied
abbrev pub OnTableWhere : (refuses : ℕ → Type 0) → (is_object_copy : Bool) → FileUnits → (fails : Error → Type 0) (path : Text) → Command → LineTable → Option Part
    → Outcome FileStop
OnTableWhere refuses true units fails path command t part start now hears result =
    StopsEarly refuses command (IsAt path ObjectCopy) start now hears result
OnTableWhere refuses false units fails path command t part start now hears result =
    StopsEarly refuses command (StringsStop refuses fails path t.line_str t.str) start now hears result
    ⊎ OnLines refuses units fails path command t part start now hears result

abbrev pub OnTable : (refuses : ℕ → Type 0) → FileUnits → (fails : Error → Type 0) (path : Text) → Command → LineTable → Option Part → Outcome FileStop
OnTable refuses units fails path command t part = OnTableWhere refuses (is_copy command && t.is_object_file) units fails path command t part

-- ---- the file. name: the section that is looked into

-- all sequences answer, but where addresses are looked up: then those of a part
abbrev pub OnFoundWhere : (refuses : ℕ → Type 0) → (looks_up : Bool) → FileUnits → (fails : Error → Type 0) (path : Text) (name : Option Text)
    → Command → (f : List ℕ) → LineTable → Outcome FileStop
OnFoundWhere refuses false units fails path name command f t start now hears result =
    OnTable refuses units fails path command t None start now hears result
OnFoundWhere refuses true units fails path name command f t start now hears result =
    StopsEarly refuses command (PartStops refuses fails path f t.is_object_file name) start now hears result
    ⊎ ((part : Option Part) × IsPart f t.is_object_file name part
    × OnTable refuses units fails path command t part start now hears result)

abbrev pub OnFound : (refuses : ℕ → Type 0) → FileUnits → (fails : Error → Type 0) (path : Text) (name : Option Text) → Command → (f : List ℕ)
    → LineTable → Outcome FileStop
OnFound refuses units fails path name command f t = OnFoundWhere refuses (looks_up command) units fails path name command f t

-- ---- what is done

abbrev pub OnFile : (refuses : ℕ → Type 0) → FileUnits → (fails : Error → Type 0) (path : Text) (name : Option Text) → Command → (f : List ℕ)
    → Outcome FileStop
OnFile refuses units fails path name command f start now hears result =
    StopsEarly refuses command (TableStops refuses units fails path (sections_of command) f) start now hears result
    ⊎ ((t : LineTable) × HasTable units fails (sections_of command) f t
    × OnFound refuses units fails path name command f t start now hears result)
