-- What `check` is told and prints. No promise rests on this file.
use Rattle.std.specs.Prelude.{◌≡◌, ℕ, List, [], Option}
use Rattle.std.specs.Io.KnownBytes.{Appends}
use Rattle.dl_sections.specs.declared.around.Damage.{Damage}
use Rattle.dl_sections.specs.declared.checking.Checker.{Checker}
use Rattle.dl_sections.specs.DamageTold.{damages_told}
use Rattle.dl_sections.specs.Section.{Visit}
use Rattle.dl_sections.specs.Visiting.{Story}

-- nothing is printed while it reads, and damaged units are told
pub record HasChecked {D : Type 0} (hears : D → D → List Damage → Type 0) (first now : Checker D)
    (start held : Option (List ℕ)) (visits : List Visit) : Type 0 where
  pub damages : now.damages.ghost_name ≡ first.damages.ghost_name
  pub heard : hears first.damages.now now.damages.now (damages_told visits)
  pub nothing : Appends start held []

abbrev pub check_story : {D : Type 0} → (D → D → List Damage → Type 0) → Story (Checker D)
check_story hears = record {
  text = λ first visits. [];
  tells = HasChecked hears;
  is_done = λ first new start now visits. ⊥;
  refuses = λ first visits fault. ⊥;
}
