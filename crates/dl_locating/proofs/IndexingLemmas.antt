-- What the program does for the words of `index` that make one.
use Rattle.std.proofs.Common.{◌≡◌, ◌⊎◌, inl, inr, ℕ, ◌||◌, Bool, List, [], Option, Result, Ok, Err, ap, ◌∙◌, subst}
use Rattle.std.specs.Prelude.{is_none, unwrap_or}
use Rattle.std.specs.Option.{option_copied}
use Rattle.std.specs.declared.io.Error.{Error}
use Rattle.std.proofs.KnownBytes.{Keeps-refl}
use Rattle.dl_addr.specs.Code.{is_code}
use Rattle.dl_cmd.specs.Job.{IndexTexts, Text}
use Rattle.dl_dirs.specs.Compilation.{directory_by}
use Rattle.dl_dirs.specs.Directories.{directory_at}
use Rattle.dl_dirs.specs.declared.directories.Directories.{Directories}
use Rattle.dl_elf.specs.Source.{ForBytes}
use Rattle.dl_file.specs.Code.{IsCode}
use Rattle.dl_file.specs.declared.code.Code.{Code}
use Rattle.dl_look.specs.declared.code_ranges.CodeRanges.{CodeRanges}
use Rattle.dl_making.specs.declared.making.Table.{Table}
use Rattle.dl_open.specs.BuildIds.{IsBuildId}
use Rattle.dl_open.specs.Code.{AreLive}
use Rattle.dl_open.specs.Stops.{IsAt}
use Rattle.dl_open.specs.declared.fault.FileFault.{FileFault}
use Rattle.dl_open.specs.declared.stop.FileStop.{FileStop}
use Rattle.dl_sections.specs.declared.around.Survey.{Survey}
use Rattle.dl_locating.specs.Compiled.{AreFound, RefusesOpening, compiled_by}
use Rattle.dl_program.specs.Damages.{unheard}
use Rattle.dl_locating.specs.Indexing.{IndexesFile, RefusesNaming, indexing}
use Rattle.dl_program.specs.Stops.{over_file, stop_of}
use Rattle.dl_program.specs.Tables.{OnFile}
use Rattle.dl_program.specs.Units.{file_units}
use Rattle.dl_program.specs.declared.command.Command.{Command}
use Rattle.dl_program.specs.declared.stop.Stop.{Stop}
use Rattle.dl_locating.proofs.LocateLemmas.{all_live, is_code-live}

module _ (refuses : ℕ → Type 0) (held : Text → Option (List ℕ)) (fails : Text → Error → Type 0) (path : Text) (w : IndexTexts) where
  pub index_refused : (start : Option (List ℕ)) (result : Result Survey Stop) (stop : FileStop) (fault : FileFault)
      (are_wanted : Bool) → are_wanted ≡ is_none w.comp_dir
      → ForBytes (held path)
      (λ f. RefusesOpening refuses are_wanted (fails path) f fault ⊎ RefusesNaming (fails path) f fault)
      → IsAt path fault stop → result ≡ Err (stop_of stop) → IndexesFile refuses held fails path w start start result
  index_refused start result stop fault are_wanted wants why at is = λ f known short.
      inl (
        stop,
        fault,
        subst (λ (b : Bool). RefusesOpening refuses b (fails path) f fault ⊎ RefusesNaming (fails path) f fault) wants
            (why f known short),
        at,
        is,
        Keeps-refl start,
      )

  pub index_done : (ranges : Option CodeRanges) (found : Directories) (id : Option (List ℕ)) (table : Table)
      (command : Command) (start now : Option (List ℕ)) (answer : Result Survey FileStop) (result : Result Survey Stop)
      (are_wanted : Bool) → are_wanted ≡ is_none w.comp_dir
      → ForBytes (held path) (λ f. (code : Code) × IsCode f (Ok code) × AreLive ranges code)
      → ForBytes (held path) (λ f. AreFound are_wanted f (directory_at found))
      → ForBytes (held path) (λ f. IsBuildId f id)
      → ((a : ℕ) → is_code (option_copied table.code) a ≡ (w.all || is_code ranges a))
      → ((n : ℕ) → directory_by table.directories n ≡ compiled_by w.comp_dir (directory_at found) n)
      → table.all ≡ w.all → table.build_id.now ≡ unwrap_or id [] → command ≡ indexing w table
      → ForBytes (held path) (λ f. OnFile refuses (file_units w.units) (fails path) path w.section command f start now unheard
      answer)
      → result ≡ over_file answer → IndexesFile refuses held fails path w start now result
  index_done ranges found id table command start now answer result are_wanted wants codes are_found named live compiled all
      kept commanded does is = λ f known short.
      let k = codes f known short in
      inr (
        k.0,
        k.1,
        directory_at found,
        subst (λ (b : Bool). AreFound b f (directory_at found)) wants (are_found f known short),
        id,
        named f known short,
        table,
        record {
          code = λ a. live a ∙ (ap (λ (b : Bool). w.all || b) (is_code-live ranges k.0 k.2 a) ∙ all_live w.all k.0 a);
          directories = compiled;
          all = all;
          build_id = kept;
        },
        answer,
        subst (λ (c : Command). OnFile refuses (file_units w.units) (fails path) path w.section c f start now unheard answer)
            commanded (does f known short),
        is,
      )
