-- What success says of a reader: its bytes are over.
use Rattle.std.specs.Prelude.{◌≡◌, List, Option, None, Result, IfOk, ℕ}
use Rattle.dl_sections.specs.Section.{Visit}
use Rattle.dl_sections.specs.Visiting.{Story}
use Rattle.dl_sections.specs.declared.around.Survey.{Survey}
use Rattle.dl_sections.specs.declared.fault.RunFault.{RunFault}

-- the visitor was told some visits, and wants nothing more
abbrev pub WantsNoMore : {S : Type 0} → Story S → (first new : S) (start now : Option (List ℕ)) → Type 0
WantsNoMore story first new start now = (visits : List Visit) × story.is_done first new start now visits

-- Over, where no unit is damaged
abbrev pub WhereWhole : (Over : Type 0) → Result Survey RunFault → Type 0
WhereWhole Over result = IfOk result (λ survey. survey.damaged ≡ None → Over)
