-- When a command has read a section to its end.
use Rattle.std.proofs.Common.{◌≡◌, ℕ, None, Some, Option, Result, Ok, Err, refl, subst, ap, ◌∙◌}
use Rattle.std.specs.Prelude.{OnOk, IfOk}
use Rattle.dl_dump.specs.declared.details.Details.{Details}
use Rattle.dl_dump.specs.declared.unit_dumping.UnitAt.{UnitAt}
use Rattle.dl_dump.specs.declared.unit_dumping.UnitAt.TheVariants.{NoUnit, Whole}
use Rattle.dl_look.specs.declared.place.Place.{Place}
use Rattle.dl_print.specs.declared.summary.Summary.{Summary}
use Rattle.dl_sections.specs.Ending.{WhereWhole}
use Rattle.dl_sections.specs.declared.around.DamagedUnits.{DamagedUnits}
use Rattle.dl_sections.specs.declared.around.Survey.{Survey}
use Rattle.dl_sections.specs.declared.fault.RunFault.{RunFault}
use Rattle.dl_sections.specs.declared.fault.RunFault.TheVariants as fault
use Rattle.dl_sources.specs.declared.question.SourcesQuestion.{SourcesQuestion}
use Rattle.dl_sources.specs.declared.question.Sums.{Sums}
use Rattle.dl_sources.specs.declared.question.Sums.TheVariants.{Agree, Differ}
use Rattle.dl_program.specs.Answers.{all_whole, summed, unit_shown, unless_damaged}
use Rattle.dl_program.specs.Whole.{HasReadAll}
use Rattle.dl_program.specs.declared.command.Command.{Command}
use Rattle.dl_program.specs.declared.command.Command.TheVariants.{Addr, AddrAround, DumpUnit, Find, Lines, LinesAround, Sources}
use Rattle.dl_program.specs.declared.command.Command.TheVariants.{SourcesAround, SourcesUnit}

-- an answer of a command, by its name
as_named : (own command : Command) (result answer : Result Survey RunFault) → own ≡ command → result ≡ answer
    → HasReadAll own result → HasReadAll command answer
as_named own command result answer is told read =
    subst (λ (k : Command). HasReadAll k answer) is (subst (HasReadAll own) told read)

-- one that ends at the first damaged unit
pub whole_over : (P : Type 0) (own command : Command) (answer : Result Summary RunFault) (result : Result Survey RunFault)
    → own ≡ command → result ≡ all_whole answer → ((f : RunFault) → ¬ HasReadAll command (Err f)) → OnOk answer P
    → HasReadAll own result → P
whole_over P own command (Ok summary) result is told never over read = over
whole_over P own command (Err f) result is told never over read =
    absurd (never f (as_named own command result (Err f) is told read))

-- one that goes on
pub around_over : (P : Type 0) (own command : Command) (result : Result Survey RunFault) → own ≡ command
    → ((f : RunFault) → ¬ HasReadAll command (Err f))
    → ((survey : Survey) → HasReadAll command (Ok survey) → survey.damaged ≡ None) → WhereWhole P result
    → HasReadAll own result → P
around_over P own command (Ok survey) is never whole over read =
    over (whole survey (as_named own command (Ok survey) (Ok survey) is refl read))
around_over P own command (Err f) is never whole over read =
    absurd (never f (as_named own command (Err f) (Err f) is refl read))

-- `find`
pub find_over : (P : Type 0) (own : Command) (place : Place) (answer : Result Summary RunFault) (result : Result Survey RunFault)
    → own ≡ Find place → result ≡ all_whole answer → (answer ≡ Err fault.NotFound → P) → HasReadAll own result → P
find_over P own place answer result is told over read =
    by answer over (as_named own (Find place) result (all_whole answer) is told read)
  where
    by : (answer : Result Summary RunFault) → (answer ≡ Err fault.NotFound → P) → HasReadAll (Find place) (all_whole answer) → P
    by (Ok summary) over read = absurd read
    by (Err fault.NotFound) over read = over refl
    by (Err other) over read = absurd read

-- a dump of one unit
pub unit_over : (P : Type 0) (own : Command) (details : Details) (unit : ℕ) (answer : Result UnitAt RunFault)
    (result : Result Survey RunFault) → own ≡ DumpUnit details unit → result ≡ all_whole (unit_shown answer)
    → ¬ (answer ≡ Err fault.NoUnit) → (answer ≡ Ok NoUnit → P) → HasReadAll own result → P
unit_over P own details unit answer result is told never over read =
    by answer never over (as_named own (DumpUnit details unit) result (all_whole (unit_shown answer)) is told read)
  where
    by : (answer : Result UnitAt RunFault) → ¬ (answer ≡ Err fault.NoUnit) → (answer ≡ Ok NoUnit → P)
        → HasReadAll (DumpUnit details unit) (all_whole (unit_shown answer)) → P
    by (Ok Whole) never over read = absurd read
    by (Ok NoUnit) never over read = over refl
    by (Err fault.NoUnit) never over read = absurd (never refl)
    by (Err other) never over read = absurd read

-- the source files of one unit
pub unit_sources_over : (P : Type 0) (own : Command) (q : SourcesQuestion) (unit : ℕ) (answer : Result Sums RunFault)
    (result : Result Survey RunFault) → own ≡ SourcesUnit q unit → result ≡ all_whole (summed answer)
    → (answer ≡ Err fault.NoUnit → P) → HasReadAll own result → P
unit_sources_over P own q unit answer result is told over read =
    by answer over (as_named own (SourcesUnit q unit) result (all_whole (summed answer)) is told read)
  where
    by : (answer : Result Sums RunFault) → (answer ≡ Err fault.NoUnit → P)
        → HasReadAll (SourcesUnit q unit) (all_whole (summed answer)) → P
    by (Ok Agree) over read = absurd read
    by (Ok Differ) over read = absurd read
    by (Err fault.NoUnit) over read = over refl
    by (Err other) over read = absurd read

-- the fault that a command answers where it has read all
abbrev pub lack_of : Command → RunFault
lack_of (Sources q) = fault.TwoSums
lack_of (SourcesAround q) = fault.TwoSums
lack_of (SourcesUnit q unit) = fault.NoUnit
lack_of (DumpUnit details unit) = fault.NoUnit
lack_of other = fault.NotFound

lacks : (command : Command) (f : RunFault) → HasReadAll command (Err f) → f ≡ lack_of command
lacks (Find place) fault.NotFound read = refl
lacks (DumpUnit details unit) fault.NoUnit read = refl
lacks (Addr q) fault.NotFound read = refl
lacks (AddrAround q) fault.NotFound read = refl
lacks (Lines q) fault.NotFound read = refl
lacks (LinesAround q) fault.NotFound read = refl
lacks (Sources q) fault.TwoSums read = refl
lacks (SourcesAround q) fault.TwoSums read = refl
lacks (SourcesUnit q unit) fault.NoUnit read = refl
lacks command f read = absurd read

is_whole : (command : Command) (survey : Survey) → HasReadAll command (Ok survey) → survey.damaged ≡ None
is_whole (Find place) survey read = absurd read
is_whole (DumpUnit details unit) survey read = absurd read
is_whole (SourcesUnit q unit) survey read = absurd read
is_whole command survey read = read

-- one whose reading doesn't end with that fault. tells: what is told of its answer
module _ {A : Type 0} (P : Type 0) (own command : Command) (is : own ≡ command) (tells : Result A RunFault → Result Survey RunFault)
    (faults : (f : RunFault) → tells (Err f) ≡ Err f) where
  failed : (f : RunFault) (result : Result Survey RunFault) → result ≡ tells (Err f)
      → ¬ (◌≡◌ {A = Result A RunFault} (Err f) (Err (lack_of command))) → HasReadAll own result → P
  failed f result told never read =
      absurd (never (ap Err (lacks command f (as_named own command result (Err f) is (told ∙ faults f) read))))

  pub told_over : (answer : Result A RunFault) (result : Result Survey RunFault) → result ≡ tells answer
      → ¬ (answer ≡ Err (lack_of command)) → OnOk answer P → HasReadAll own result → P
  told_over (Ok a) result told never over read = over
  told_over (Err f) result told never over read = failed f result told never read

  -- of one that goes on after damaged units
  module _ (damaged : A → Option DamagedUnits) (good : A → Result Survey RunFault)
      (around : (a : A) → tells (Ok a) ≡ unless_damaged (damaged a) (good a)) where
    by_damaged : (units : Option DamagedUnits) (answer result : Result Survey RunFault) → result ≡ unless_damaged units answer
        → (units ≡ None → P) → HasReadAll own result → P
    by_damaged None answer result told over read = over refl
    by_damaged (Some units) answer result told over read =
        let some : ◌≡◌ {A = Option DamagedUnits} (Some units) None = is_whole command _
        (as_named own command result (unless_damaged (Some units) answer) is told read) in absurd cc

    pub told_around_over : (answer : Result A RunFault) (result : Result Survey RunFault) → result ≡ tells answer
        → ¬ (answer ≡ Err (lack_of command)) → IfOk answer (λ a. damaged a ≡ None → P) → HasReadAll own result → P
    told_around_over (Ok a) result told never over read = by_damaged (damaged a) (good a) result (told ∙ around a) over read
    told_around_over (Err f) result told never over read = failed f result told never read
