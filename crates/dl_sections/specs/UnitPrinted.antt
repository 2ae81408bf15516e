-- What `copy` prints of a unit. DWARF 5, section 6.2. No promise rests on this file.
use Rattle.std.specs.Prelude.{◌≡◌, ℕ, List, ◌++◌, Option, Some, None, Result, Ok, Err}
use Rattle.dl_emit.specs.declared.fault.EmitFault.{EmitFault}
use Rattle.dl_print.specs.Printed.{Printed}
use Rattle.dl_print.specs.Output.{HasPrinted, PrintsMore}
use Rattle.dl_sections.specs.RunOutput.{TellsOut}
use Rattle.dl_sections.specs.declared.fault.RunFault.{RunFault}
use Rattle.dl_sections.specs.declared.fault.RunFault.TheVariants.{Write, Emit}

-- nothing was printed, and nothing of what is held went out
abbrev pub PrintsNothing : (old new : Option (List ℕ)) (before after : Printed) → Type 0
PrintsNothing old new before after = (new ≡ old) × (after ≡ before)

-- a write failed before all of `more` was out, after whatever text was printed before
abbrev pub StopsPrinting : (old new : Option (List ℕ)) (before : Printed) (more : List ℕ) → RunFault → Type 0
StopsPrinting old new before more fault =
    (start : Option (List ℕ)) (text : List ℕ) → HasPrinted start old text before
    → TellsOut start new (text ++ more) fault

-- A part of a unit is printed; or a write failed; or the unit is refused, and the fault has its offset.
abbrev pub PrintsPart : {A : Type 0} (old new : Option (List ℕ)) (before after : Printed) (part : List ℕ)
    (refused : Option EmitFault) (offset : ℕ) → Result A RunFault → Type 0
PrintsPart old new before after part refused offset (Ok _) = (refused ≡ None) × PrintsMore old new before after part
PrintsPart old new before after part refused offset (Err (Write out)) =
    (refused ≡ None) × StopsPrinting old new before part (Write out)
PrintsPart old new before after part refused offset (Err (Emit unit fault)) =
    (unit ≡ offset) × (refused ≡ Some fault) × PrintsNothing old new before after
PrintsPart old new before after part refused offset (Err _) = ⊥
