-- What is asked of a line table with what its file tells.
use Rattle.std.proofs.Common.{◌≡◌, inl, inr, ℕ, ◌||◌, Bool, true, List, Option, None, Result, Ok, Err, Bor, ap, ◌∙◌, subst}
use Rattle.std.specs.Prelude.{is_none}
use Rattle.std.specs.Option.{option_copied}
use Rattle.std.specs.declared.io.Error.{Error}
use Rattle.std.proofs.KnownBytes.{Keeps-refl}
use Rattle.dl_addr.specs.Code.{is_code}
use Rattle.dl_cmd.specs.Job.{Text}
use Rattle.dl_dirs.specs.Compilation.{directory_by}
use Rattle.dl_dirs.specs.Directories.{directory_at}
use Rattle.dl_dirs.specs.declared.compilation.CompilationDirectories.{CompilationDirectories}
use Rattle.dl_dirs.specs.declared.directories.Directories.{Directories}
use Rattle.dl_elf.specs.Source.{ForBytes}
use Rattle.dl_file.specs.Code.{IsCode}
use Rattle.dl_file.specs.declared.code.Code.{Code}
use Rattle.dl_look.specs.declared.code_ranges.CodeRanges.{CodeRanges}
use Rattle.dl_open.specs.Code.{AreLive}
use Rattle.dl_open.specs.Stops.{IsAt}
use Rattle.dl_open.specs.declared.fault.FileFault.{FileFault}
use Rattle.dl_open.specs.declared.stop.FileStop.{FileStop}
use Rattle.dl_sections.specs.declared.around.Survey.{Survey}
use Rattle.dl_program.specs.Damages.{unheard}
use Rattle.dl_program.specs.Stops.{over_file, stop_of}
use Rattle.dl_program.specs.Tables.{OnFile}
use Rattle.dl_program.specs.Units.{file_units}
use Rattle.dl_program.specs.Work.{OnInput}
use Rattle.dl_program.specs.declared.command.Command.{Command}
use Rattle.dl_program.specs.declared.stop.Stop.{Stop}
use Rattle.dl_locating.specs.Compiled.{AreFound, RefusesOpening, compiled_by}
use Rattle.dl_locating.specs.WithTable.{InputRead, TableFileRead, TableTexts, command_for, section_in, suits_file, suits_input}
use Rattle.dl_locating.specs.declared.with_table.Wish.{Wish}
use Rattle.dl_locating.proofs.LocateLemmas.{all_live, is_code-live}

module _ (refuses : ℕ → Type 0) (held : Text → Option (List ℕ)) (fails : Text → Error → Type 0) (w : TableTexts) (wish : Wish) where
  pub input_done : (code : Option (Bor CodeRanges)) (directories : CompilationDirectories) (command : Command) (bytes : List ℕ)
      (left start now : Option (List ℕ)) (result : Result Survey Stop) → suits_input w ≡ true → code ≡ None
      → ((n : ℕ) → directory_by directories n ≡ w.comp_dir) → command ≡ command_for wish code directories
      → OnInput refuses held fails (section_in w) command bytes left start now unheard result
      → InputRead refuses held fails w wish bytes left start now result
  input_done code directories command bytes left start now result suits everywhere said commanded does =
      inr (
        suits,
        directories,
        said,
        subst (λ (c : Command). OnInput refuses held fails (section_in w) c bytes left start now unheard result)
            (commanded ∙ ap (λ (k : Option (Bor CodeRanges)). command_for wish k directories) everywhere) does,
      )

  module _ (path : Text) (are_wanted : Bool) (wants : are_wanted ≡ is_none w.comp_dir) (suits : suits_file w ≡ true) where
    pub table_refused : (start : Option (List ℕ)) (result : Result Survey Stop) (stop : FileStop) (fault : FileFault)
        → ForBytes (held path) (λ f. RefusesOpening refuses are_wanted (fails path) f fault) → IsAt path fault stop
        → result ≡ Err (stop_of stop) → TableFileRead refuses held fails path w wish start start result
    table_refused start result stop fault why at is = inr (
      suits,
      λ f known short. inl (
        stop,
        fault,
        subst (λ (b : Bool). RefusesOpening refuses b (fails path) f fault) wants (why f known short),
        at,
        is,
        Keeps-refl start,
      ),
    )

    pub table_done : (ranges : Option CodeRanges) (found : Directories) (code : Option (Bor CodeRanges))
        (directories : CompilationDirectories) (command : Command) (start now : Option (List ℕ)) (answer : Result Survey FileStop)
        (result : Result Survey Stop)
        → ForBytes (held path) (λ f. (executable : Code) × IsCode f (Ok executable) × AreLive ranges executable)
        → ForBytes (held path) (λ f. AreFound are_wanted f (directory_at found))
        → ((a : ℕ) → is_code (option_copied code) a ≡ (w.all || is_code ranges a))
        → ((n : ℕ) → directory_by directories n ≡ compiled_by w.comp_dir (directory_at found) n)
        → command ≡ command_for wish code directories
        → ForBytes (held path) (λ f. OnFile refuses (file_units w.units) (fails path) path w.section command f start now unheard
        answer)
        → result ≡ over_file answer → TableFileRead refuses held fails path w wish start now result
    table_done ranges found code directories command start now answer result codes are_found live compiled commanded does is = inr (
      suits,
      λ f known short.
          let k = codes f known short in
          inr (
            k.0,
            k.1,
            directory_at found,
            subst (λ (b : Bool). AreFound b f (directory_at found)) wants (are_found f known short),
            code,
            directories,
            λ a. live a ∙ (ap (λ (b : Bool). w.all || b) (is_code-live ranges k.0 k.2 a) ∙ all_live w.all k.0 a),
            compiled,
            answer,
            subst (λ (c : Command). OnFile refuses (file_units w.units) (fails path) path w.section c f start now unheard answer)
                commanded (does f known short),
            is,
          ),
    )
