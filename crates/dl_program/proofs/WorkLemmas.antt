-- A request over a section on the input, and over the ELF file of a path.
use Rattle.std.proofs.Common.{◌≡◌, ℕ, Bool, true, false, List, [], Option, Some, None, Result, inl, inr, refl, subst}
use Rattle.std.specs.declared.io.Error.{Error}
use Rattle.dl_sections.specs.declared.around.Damage.{Damage}
use Rattle.dl_sections.specs.declared.around.Survey.{Survey}
use Rattle.dl_cmd.specs.Job.{Request, Text}
use Rattle.dl_elf.specs.declared.fault.ElfFault.{ElfFault}
use Rattle.dl_elf.specs.declared.fault.ElfFault.TheVariants as elf
use Rattle.dl_open.specs.Directories.{RefusesDirectories}
use Rattle.dl_open.specs.declared.dialect.FileUnits.{FileUnits}
use Rattle.dl_open.specs.declared.stop.FileStop.{FileStop}
use Rattle.dl_program.specs.declared.command.Command.{Command}
use Rattle.dl_program.specs.declared.stop.Stop.{Stop}
use Rattle.dl_program.specs.Asked.{SectionWords, command_of, command_seen, file_of, part_name_of, section_of}
use Rattle.dl_elf.specs.Source.{ForBytes}
use Rattle.dl_program.specs.Shown.{under}
use Rattle.dl_program.specs.Stops.{over_file}
use Rattle.dl_program.specs.Units.{file_units, units_of}
use Rattle.dl_program.proofs.TableLemmas.{on_file_weaker}
use Rattle.dl_program.specs.Work.{OnHeld, OnInput, OpenedWhere, Works}

pub works_on_input : (refuses : ℕ → Type 0) (held : Text → Option (List ℕ)) (fails : Text → Error → Type 0) (request : Option Request)
    (r : Request) (command : Command) (words : SectionWords) (bytes : List ℕ)
    (left start now : Option (List ℕ)) (hears : List Damage → Type 0) (result : Result Survey Stop) → request ≡ Some r
    → command_of r ≡ Some (command_seen command)
    → file_of r ≡ None → words ≡ section_of r
    → OnInput refuses held fails words command bytes left start now hears result
    → Works refuses held fails request bytes left start now hears result
works_on_input refuses held fails request r command words bytes left start now hears result is asks no_file said does =
    rw (is, asks) (
      command,
      refl,
      rw no_file (subst (λ (w : SectionWords). OnInput refuses held fails w command bytes left start now hears result) said does),
    )

pub works_on_named : (refuses : ℕ → Type 0) (held : Text → Option (List ℕ)) (fails : Text → Error → Type 0) (request : Option Request)
    (r : Request) (command : Command) (units : FileUnits) (path : Text) (name : Option Text)
    (left start now : Option (List ℕ)) (hears : List Damage → Type 0)
    (answer : Result Survey FileStop) (result : Result Survey Stop) → request ≡ Some r
    → command_of r ≡ Some (command_seen command)
    → file_of r ≡ Some path → units ≡ file_units (units_of r) → name ≡ part_name_of r → result ≡ over_file answer
    → ForBytes (held path) (λ f. OnHeld refuses units (fails path) path name command f start now hears answer)
    → Works refuses held fails request [] left start now hears result
works_on_named refuses held fails request r command units path name left start now hears answer result is asks named reads said
    told does =
    rw (is, asks) (
      command,
      refl,
      rw named (
        refl,
        answer,
        told,
        subst (λ (u : FileUnits). ForBytes (held path) (λ f. OnHeld refuses u (fails path) path (part_name_of r) command f start now
            hears answer)) reads
            (subst (λ (n : Option Text). ForBytes (held path) (λ f. OnHeld refuses units (fails path) path n command f start now
            hears answer)) said does),
      ),
    )

-- ---- an open file whose directories may be wanted

module _ (refuses : ℕ → Type 0) (units : FileUnits) (path : Text) (name : Option Text) (command : Command) (f : List ℕ) where
  -- by more errors of its source
  directories_weaker : (fails wider : Error → Type 0) → ((e : Error) → fails e → wider e) → (fault : ElfFault)
      → RefusesDirectories refuses fails f fault → RefusesDirectories refuses wider f fault
  directories_weaker fails wider more (elf.Read error) why = more error why
  directories_weaker fails wider more elf.NoMemory why = why
  directories_weaker fails wider more other why = absurd why

  pub opened_weaker : (fails wider : Error → Type 0) (wants : Bool) (start now : Option (List ℕ)) (hears : List Damage → Type 0)
      (result : Result Survey FileStop) → ((e : Error) → fails e → wider e)
      → OpenedWhere refuses wants units fails path name command f start now hears result
      → OpenedWhere refuses wants units wider path name command f start now hears result
  opened_weaker fails wider false start now hears result more done =
      on_file_weaker refuses units fails wider path name command f start now hears result more done
  opened_weaker fails wider true start now hears result more (inl (stop, fault, is, why, at, written, untold)) =
      inl (stop, fault, is, directories_weaker fails wider more fault why, at, written, untold)
  opened_weaker fails wider true start now hears result more (inr (found, are, directories, these, done)) =
      inr (
        found,
        are,
        directories,
        these,
        on_file_weaker refuses units fails wider path name (under command directories) f start now hears result more done,
      )
