-- What the program does for the words of `index` that make one. start, now: what the output held at first, and holds now.
-- held: what the file of a path holds, where that is known; fails: the errors that opening and reading it may give. f: the
-- bytes of the file.
use Rattle.std.specs.Prelude.{◌≡◌, ◌⊎◌, ℕ, List, [], if◌then◌else◌, Option, None, is_none, unwrap_or, MatchOption, Result}
use Rattle.std.specs.Prelude.{Ok, Err}
use Rattle.std.specs.Option.{option_copied}
use Rattle.std.specs.Io.KnownBytes.{Keeps}
use Rattle.std.specs.declared.io.Error.{Error}
use Rattle.dl_addr.specs.Code.{is_code}
use Rattle.dl_cmd.specs.Job.{IndexTexts, Text}
use Rattle.dl_dirs.specs.Compilation.{directory_by}
use Rattle.dl_elf.specs.Source.{ForBytes}
use Rattle.dl_file.specs.Code.{IsCode}
use Rattle.dl_file.specs.declared.code.Code.{Code}
use Rattle.dl_making.specs.declared.making.Table.{Table}
use Rattle.dl_open.specs.BuildIds.{IsBuildId, RefusesBuildId}
use Rattle.dl_open.specs.Code.{live_by}
use Rattle.dl_open.specs.Stops.{IsAt}
use Rattle.dl_open.specs.declared.fault.FileFault.{FileFault}
use Rattle.dl_open.specs.declared.fault.FileFault.TheVariants.{Elf}
use Rattle.dl_open.specs.declared.stop.FileStop.{FileStop}
use Rattle.dl_sections.specs.declared.around.Survey.{Survey}
use Rattle.dl_locating.specs.Compiled.{AreFound, RefusesOpening, compiled_by}
use Rattle.dl_program.specs.Damages.{unheard}
use Rattle.dl_program.specs.Stops.{over_file, stop_of}
use Rattle.dl_program.specs.Tables.{OnFile}
use Rattle.dl_program.specs.Units.{are_sizes, file_units}
use Rattle.dl_program.specs.declared.command.Command.{Command}
use Rattle.dl_program.specs.declared.command.Command.TheVariants.{Index, IndexAround}
use Rattle.dl_program.specs.declared.stop.Stop.{Stop}
use Rattle.dl_program.specs.declared.stop.Stop.TheVariants.{NotUnderstood}

-- the path of the file whose index is made; None where the words name none, an index is listed, or a size is no size
abbrev pub file_indexed : IndexTexts → Option Text
file_indexed w = if w.list then None else if are_sizes w.units then w.file else None

-- what the index is made with: sequences count that begin where there is code, or all that are asked for; paths stand where
-- the words say that the units were compiled, or else the file; id: the build ID of the file, if it has one
pub record IsMadeWith (w : IndexTexts) (executable : Code) (found : ℕ → Option (List ℕ)) (id : Option (List ℕ)) (table : Table)
    : Type 0 where
  pub code : (a : ℕ) → is_code (option_copied table.code) a ≡ live_by w.all executable a
  pub directories : (n : ℕ) → directory_by table.directories n ≡ compiled_by w.comp_dir found n
  pub all : table.all ≡ w.all
  pub build_id : table.build_id.now ≡ unwrap_or id []

-- the command that makes it: where the words say so it goes on after a damaged unit
abbrev pub indexing : IndexTexts → Table → Command
indexing w table = if w.keep_going then IndexAround table else Index table

-- the build ID of the file can't be told
abbrev pub RefusesNaming : (fails : Error → Type 0) (f : List ℕ) → FileFault → Type 0
RefusesNaming fails f (Elf fault) = RefusesBuildId fails f fault
RefusesNaming fails f other = ⊥

-- over the ELF file of a path: it can't be told where it has code, where its units were compiled, or which build it is, and
-- nothing is written; or the command is done
abbrev pub IndexesFile : (refuses : ℕ → Type 0) → (held : Text → Option (List ℕ)) (fails : Text → Error → Type 0) → Text → IndexTexts
    → (start now : Option (List ℕ)) → Result Survey Stop → Type 0
IndexesFile refuses held fails path w start now result = ForBytes (held path) (λ f.
    ((stop : FileStop) × (fault : FileFault)
    × (RefusesOpening refuses (is_none w.comp_dir) (fails path) f fault ⊎ RefusesNaming (fails path) f fault)
    × IsAt path fault stop × (result ≡ Err (stop_of stop)) × Keeps start now)
    ⊎ ((code : Code) × IsCode f (Ok code)
    × (found : ℕ → Option (List ℕ)) × AreFound (is_none w.comp_dir) f found
    × (id : Option (List ℕ)) × IsBuildId f id
    × (table : Table) × IsMadeWith w code found id table
    × (answer : Result Survey FileStop)
    × OnFile refuses (file_units w.units) (fails path) path w.section (indexing w table) f start now unheard answer
    × (result ≡ over_file answer)))

-- by the words
abbrev pub IndexesFor : (refuses : ℕ → Type 0) → (held : Text → Option (List ℕ)) (fails : Text → Error → Type 0) → IndexTexts
    → (start now : Option (List ℕ)) → Result Survey Stop → Type 0
IndexesFor refuses held fails w start now result =
    MatchOption (file_indexed w) ((result ≡ Err NotUnderstood) × Keeps start now)
    (λ path. IndexesFile refuses held fails path w start now result)
