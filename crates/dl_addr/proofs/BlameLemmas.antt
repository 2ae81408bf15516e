-- Which reads are blamed, and which writes.
use Rattle.std.proofs.Common.{◌≡◌, Result, Ok, Err}
use Rattle.dl_print.specs.declared.fault.WriteFault.{WriteFault}
use Rattle.dl_print.specs.declared.summary.Summary.{Summary}
use Rattle.dl_print.specs.Output.{BlamesWriter as PrintBlames}
use Rattle.dl_sections.specs.declared.around.Survey.{Survey}
use Rattle.dl_sections.specs.declared.fault.RunFault.{RunFault}
use Rattle.dl_sections.specs.declared.fault.RunFault.TheVariants as fault
use Rattle.dl_sections.specs.Blaming.{BlamesWriter}
use Rattle.dl_sections.specs.Ending.{WhereWhole}
use Rattle.dl_sections.specs.Section.{Visit}
use Rattle.dl_sections.proofs.BlameLemmas.{same_answer}
use Rattle.dl_addr.specs.declared.question.WhichFound.{WhichFound}
use Rattle.dl_addr.specs.declared.locating.Locator.{Locator}
use Rattle.dl_addr.specs.Locating.{StopsAt}
use Rattle.dl_addr.specs.Printing.{told, told_around}
use Rattle.std.specs.Prelude.{ℕ, List, None, OnOk, IfOk}

-- memory is wanted, and no read failed
pub never_read : {M : Type 0} {refuses : M → ℕ → Type 0} (first : Locator M) (visits : List Visit)
    → ¬ StopsAt refuses first visits fault.Read
never_read first visits stops = let is = stops.is in absurd cc

-- a failed read that is told is the one that ended the reading
pub told_read : (ended : Result Summary RunFault) (printed : Result WhichFound WriteFault) → told ended printed ≡ Err fault.Read
    → ended ≡ Err fault.Read
told_read ended (Err lost) e = absurd cc
told_read (Ok summary) (Ok found) e = absurd cc
told_read (Err f) (Ok found) e = same_answer f e

pub told_around_read : (ended : Result Survey RunFault) (printed : Result WhichFound WriteFault)
    → told_around ended printed ≡ Err fault.Read → ended ≡ Err fault.Read
told_around_read ended (Err lost) e = absurd cc
told_around_read (Ok survey) (Ok found) e = absurd cc
told_around_read (Err f) (Ok found) e = same_answer f e

-- a failed write that is told is one of the reading or of the lines
pub told_writer : (fails : Type 0) (ended : Result Summary RunFault) (printed : Result WhichFound WriteFault)
    → BlamesWriter fails ended → PrintBlames fails printed → BlamesWriter fails (told ended printed)
told_writer fails ended (Err lost) read lines = lines
told_writer fails (Ok summary) (Ok found) read lines = tt
told_writer fails (Err f) (Ok found) read lines = read

pub told_around_writer : (fails : Type 0) (ended : Result Survey RunFault) (printed : Result WhichFound WriteFault)
    → BlamesWriter fails ended → PrintBlames fails printed → BlamesWriter fails (told_around ended printed)
told_around_writer fails ended (Err lost) read lines = lines
told_around_writer fails (Ok survey) (Ok found) read lines = tt
told_around_writer fails (Err f) (Ok found) read lines = read

-- where all is told the reading ended well
pub told_over : (P : Type 0) (ended : Result Summary RunFault) (printed : Result WhichFound WriteFault) → OnOk ended P
    → OnOk (told ended printed) P
told_over P ended (Err lost) over = tt
told_over P (Ok summary) (Ok found) over = over
told_over P (Err f) (Ok found) over = tt

pub told_around_over : (P : Type 0) (ended : Result Survey RunFault) (printed : Result WhichFound WriteFault) → WhereWhole P ended
    → IfOk (told_around ended printed) (λ around. around.damaged ≡ None → P)
told_around_over P ended (Err lost) over = tt
told_around_over P (Ok survey) (Ok found) over = over
told_around_over P (Err f) (Ok found) over = tt
