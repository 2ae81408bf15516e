-- What a report tells. No promise rests on this file.
use Rattle.std.specs.Prelude.{◌≡◌, ℕ, ◌+◌, ◌*◌, Bool, true, if◌then◌else◌, List, ◌++◌, length, MatchResult, OnOk, Option, Result, Ok, Err}
use Rattle.std.specs.Io.KnownBytes.{Appends}
use Rattle.dl_memory.specs.Refusals.{IsRefused}
use Rattle.dl_print.specs.Output.{HasPrinted, Prints, TellsOut}
use Rattle.dl_print.specs.declared.fault.WriteFault.{WriteFault}
use Rattle.dl_sections.specs.declared.fault.RunFault.{RunFault}
use Rattle.dl_sections.specs.declared.fault.RunFault.TheVariants as fault
use Rattle.dl_sequence_rules.specs.SequenceFindings.{section_found}
use Rattle.dl_sequence_rules.specs.declared.ended.Ended.{Ended}
use Rattle.dl_lint.specs.Wanting.{keeps_sequences}
use Rattle.dl_findings.specs.Counting.{Counts}
use Rattle.dl_lint.specs.Findings.{chosen}
use Rattle.dl_findings.specs.FindingTold.{findings_text}
use Rattle.dl_findings.specs.declared.finding.Finding.{Finding}
use Rattle.dl_findings.specs.declared.finding.TableEntry.{TableEntry}
use Rattle.dl_findings.specs.declared.finding.TableEntry.TheVariants as entry
use Rattle.dl_lint.specs.declared.report.Report.{Report}

-- what is told of these findings
abbrev pub told_text : Report → List Finding → List ℕ
told_text report findings = findings_text report.question.now.form (chosen report.question.now.rules findings)

-- the same is asked, and these findings are counted beside those before
pub record Adds (old new : Report) (findings : List Finding) : Type 0 where
  pub question : new.question.now ≡ old.question.now
  pub counts : (told : List Finding) → Counts old.counts told → Counts new.counts (told ++ chosen old.question.now.rules findings)

-- the lines of those that are chosen are printed, and they are counted; or a write failed
abbrev pub Tells : {A : Type 0} (before after : Option (List ℕ)) (old new : Report) (findings : List Finding)
    → Result A WriteFault → Type 0
Tells before after old new findings result =
    Prints before after old.printer.now new.printer.now (told_text old findings) result
    × OnOk result (Adds old new findings)

-- the entry of a number, of the table of files or of that of directories
abbrev pub entry_numbered : (are_files : Bool) → ℕ → TableEntry
entry_numbered are_files n = if are_files then entry.File n else entry.Directory n

-- and all that was printed is out
abbrev pub TellsAll : {A : Type 0} (before after : Option (List ℕ)) (old new : Report) (findings : List Finding)
    → Result A WriteFault → Type 0
TellsAll before after old new findings result =
    ((start : Option (List ℕ)) (text : List ℕ) → HasPrinted start before text old.printer.now
    → MatchResult result (λ _. Appends start after (text ++ told_text old findings))
    (TellsOut start after (text ++ told_text old findings)))
    × OnOk result (Adds old new findings)

-- of a section of which these sequences are kept, and all was out that was printed before
abbrev pub TellsSection : {A : Type 0} (refuses : ℕ → Type 0) (before after : Option (List ℕ)) (old new : Report) (ended : List Ended)
    → Result A RunFault → Type 0
TellsSection refuses before after old new ended (Err fault.NoMemory) =
    (after ≡ before) × (keeps_sequences old.question.now ≡ true) × IsRefused refuses (2 * length ended + 1)
TellsSection refuses before after old new ended (Err (fault.Write out)) =
    (start : Option (List ℕ)) (text : List ℕ) → HasPrinted start before text old.printer.now → Appends start before text
    → TellsOut start after (text ++ told_text old (section_found 0 old.question.now.ranges.now ended)) (record { out = out })
TellsSection refuses before after old new ended (Err other) = ⊥
TellsSection refuses before after old new ended (Ok a) =
    ((start : Option (List ℕ)) (text : List ℕ) → HasPrinted start before text old.printer.now → Appends start before text
    → Appends start after (text ++ told_text old (section_found 0 old.question.now.ranges.now ended)))
    × Adds old new (section_found 0 old.question.now.ranges.now ended)
