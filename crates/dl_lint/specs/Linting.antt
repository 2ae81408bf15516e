-- What a linter is told and tells. No promise rests on this file.
use Rattle.std.specs.Prelude.{◌≡◌, ℕ, true, List, length, Option, Some, None, Result, Ok, Err}
use Rattle.std.specs.Io.KnownBytes.{Appends}
use Rattle.dl_sections.specs.RunOutput.{TellsOut}
use Rattle.std.specs.List.{last_or}
use Rattle.dl_print.specs.Output.{HasPrinted}
use Rattle.dl_sections.specs.declared.around.Damage.{Damage}
use Rattle.dl_memory.specs.Refusals.{IsRefused}
use Rattle.dl_field.specs.HeaderData.{HeaderData}
use Rattle.dl_print.specs.ValueText.{Strings}
use Rattle.dl_sections.specs.declared.fault.RunFault.{RunFault}
use Rattle.dl_sections.specs.declared.fault.RunFault.TheVariants as fault
use Rattle.dl_sections.specs.Commands.{strings_in}
use Rattle.dl_sections.specs.DamageTold.{damages_told}
use Rattle.dl_sections.specs.Section.{Visit}
use Rattle.dl_sections.specs.Visiting.{Story}
use Rattle.dl_findings.specs.declared.counts.FindingCounts.{FindingCounts}
use Rattle.dl_lint.specs.declared.linting.Linter.{Linter}
use Rattle.dl_findings.specs.Chosen.{is_chosen}
use Rattle.dl_findings.specs.Counting.{Counts}
use Rattle.dl_findings.specs.declared.rule.Rule.TheVariants as rule
use Rattle.dl_findings.specs.declared.rules.Rules.{Rules}
use Rattle.dl_table_rules.specs.Keeping.{AreEnds}
use Rattle.dl_operation_rules.specs.Keeping.{Knows}
use Rattle.dl_operation_rules.specs.Operations.{seen}
use Rattle.dl_findings.specs.declared.finding.Finding.{Finding}
use Rattle.dl_findings.specs.FindingTold.{findings_text}
use Rattle.dl_lint.specs.Findings.{all_findings, findings_in}
use Rattle.dl_lint.specs.Wanting.{RefusesAt, RefusesPlaces, keeps_files}
use Rattle.dl_lint.specs.declared.question.LintQuestion.{LintQuestion}
use Rattle.dl_lint.specs.Keeping.{KnowsFiles, KnowsSequences, reached_by}

-- the string sections that it was handed
abbrev pub strings_of : {M D : Type 0} → Linter M D → Strings
strings_of linter = strings_in linter.options.now

-- what is found of the visits
abbrev pub found_by : {M D : Type 0} → Linter M D → List Visit → List Finding
found_by linter visits = findings_in (strings_of linter) linter.report.question.now visits

abbrev pub text_by : {M D : Type 0} → Linter M D → List Visit → List ℕ
text_by linter visits = findings_text linter.report.question.now.form (found_by linter visits)

-- the findings of the visits are printed and counted, and damaged units are told
pub record HasLinted {M D : Type 0} (hears : D → D → List Damage → Type 0) (first now : Linter M D)
    (start held : Option (List ℕ)) (visits : List Visit) : Type 0 where
  pub memory : now.memory.now ≡ first.memory.now
  pub question : now.report.question.now ≡ first.report.question.now
  pub damages : now.damages.ghost_name ≡ first.damages.ghost_name
  pub heard : hears first.damages.now now.damages.now (damages_told visits)
  pub reached : now.at ≡ reached_by visits
  pub knows : Knows now.operations (seen visits)
  pub files : KnowsFiles first.report.question.now.rules now.files.now visits
  pub sequences : KnowsSequences first.report.question.now now.sequences.now visits
  pub ends : is_chosen first.report.question.now.rules rule.MissingText ≡ true
      → AreEnds now.ends (strings_of first).line_strings (strings_of first).strings
  pub counts : Counts now.report.counts (found_by first visits)
  pub printed : HasPrinted start held (text_by first visits) now.report.printer.now

-- memory was refused at the last of these visits
abbrev pub RefusesSome : (refuses : ℕ → Type 0) → LintQuestion → List Visit → Option Visit → Type 0
RefusesSome refuses q visits None = ⊥
RefusesSome refuses q visits (Some visit) = RefusesAt refuses q visits visit

-- and so it stops
abbrev pub WantsFiles : (refuses : ℕ → Type 0) → Rules → HeaderData → RunFault → Type 0
WantsFiles refuses rules h f =
    (f ≡ fault.NoMemory) × (keeps_files rules ≡ true) × IsRefused refuses (length h.files.entries)

abbrev pub lint_story : {M D : Type 0} → (M → ℕ → Type 0) → (D → D → List Damage → Type 0) → Story (Linter M D)
lint_story refuses hears = record {
  text = text_by;
  tells = HasLinted hears;
  is_done = λ first now start held visits. ⊥;
  refuses = λ first visits f. (f ≡ fault.NoMemory)
      × RefusesSome (refuses first.memory.now) first.report.question.now visits (last_or None visits);
}

-- ---- at the end of the section

abbrev pub whole_by : {M D : Type 0} → Linter M D → List Visit → List Finding
whole_by linter visits = all_findings (strings_of linter) linter.report.question.now visits

abbrev pub whole_text_by : {M D : Type 0} → Linter M D → List Visit → List ℕ
whole_text_by linter visits = findings_text linter.report.question.now.form (whole_by linter visits)

abbrev pub FinishesBy : {M D : Type 0} → (M → ℕ → Type 0) → (first : Linter M D) (start now : Option (List ℕ)) → List Visit
    → Result FindingCounts RunFault → Type 0
FinishesBy refuses first start now visits (Ok counts) =
    Counts counts (whole_by first visits) × Appends start now (whole_text_by first visits)
FinishesBy refuses first start now visits (Err (fault.Write out)) =
    TellsOut start now (whole_text_by first visits) (fault.Write out)
FinishesBy refuses first start now visits (Err fault.NoMemory) =
    RefusesPlaces (refuses first.memory.now) first.report.question.now visits × Appends start now (text_by first visits)
FinishesBy refuses first start now visits (Err other) = ⊥

-- whatever it was told, where all that was printed is out
abbrev pub Finishes : {M D : Type 0} → (M → ℕ → Type 0) → (D → D → List Damage → Type 0) → (old : Linter M D)
    (before after : Option (List ℕ)) → Result FindingCounts RunFault → Type 0
Finishes {M} {D} refuses hears old before after result =
    (first : Linter M D) (start : Option (List ℕ)) (visits : List Visit)
    → HasLinted hears first old start before visits → Appends start before (text_by first visits)
    → FinishesBy refuses first start after visits result

-- the same damaged units were told
abbrev pub ends_by : {M D : Type 0} → (M → ℕ → Type 0) → (D → D → List Damage → Type 0) → (old new : Linter M D)
    → (before after : Option (List ℕ)) → Result FindingCounts RunFault → Type 0
ends_by refuses hears old new before after result =
    (new.damages ≡ old.damages) × Finishes refuses hears old before after result
