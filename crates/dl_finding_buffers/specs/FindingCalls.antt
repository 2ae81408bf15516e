-- What the call answers that tells the findings of a section. s: the bytes of a section; v: the records of its findings, one after
-- the other; keep_going: damaged units are gone around; refuses: for how many items memory is refused. DWARF 5, sections 6.2.2 to
-- 6.2.5.
use Rattle.std.specs.Prelude.{⊤, ◌≡◌, ◌≢◌, ◌⊎◌, ℕ, Bool, true, false, List, [], length, map, Option, Some, Result, Ok, Err}
use Rattle.std.specs.Io.KnownBytes.{Consumes}
use Rattle.dl_buffers.specs.declared.record.FaultRecord.{FaultRecord}
use Rattle.dl_buffers.specs.declared.status.Status.{Status}
use Rattle.dl_buffers.specs.declared.status.Status.TheVariants as status
use Rattle.dl_buffers.specs.UnitCalls.{written_over}
use Rattle.dl_findings.specs.Chosen.{has_bit, is_chosen}
use Rattle.dl_findings.specs.declared.finding.Finding.{Finding}
use Rattle.dl_findings.specs.declared.finding_told.FindingForm.TheVariants as forms
use Rattle.dl_findings.specs.declared.rule.Rule.{Rule}
use Rattle.dl_findings.specs.FindingRecord.{finding_record}
use Rattle.dl_findings.specs.FindingTold.{findings_text}
use Rattle.dl_head.specs.declared.dialect.Dialect.{Dialect}
use Rattle.dl_held.specs.Holding.{CannotHold}
use Rattle.dl_lint.specs.Commands.{Lints, LintsAround}
use Rattle.dl_lint.specs.declared.question.LintQuestion.{LintQuestion}
use Rattle.dl_lint.specs.declared.question.Linted.{Linted}
use Rattle.dl_lint.specs.declared.question.LintedAround.{LintedAround}
use Rattle.dl_print.specs.ValueText.{Strings}
use Rattle.dl_sections.specs.declared.fault.RunFault.{RunFault}
use Rattle.dl_sections.specs.declared.fault.RunFault.TheVariants as run
use Rattle.dl_sections.specs.declared.options.TheConstants.{SECTION_LIMIT}
use Rattle.dl_source_buffers.specs.declared.end.End.{End}
use Rattle.dl_source_buffers.specs.declared.end.End.TheVariants as ends
use Rattle.dl_source_buffers.specs.Ends.{damage_end, fault_end}

-- how the reading ends: up to the first fault, and around damaged units
abbrev pub lint_end : Result Linted RunFault → End
lint_end (Ok linted) = ends.Whole
lint_end (Err f) = fault_end f

abbrev pub lint_end_around : Result LintedAround RunFault → End
lint_end_around (Ok linted) = damage_end linted.survey.damaged
lint_end_around (Err f) = fault_end f

-- records of the findings of the rules whose bits are set are asked for; each sequence counts, and no code is known
pub record AsksForRecords (bits : ℕ) (q : LintQuestion) : Type 0 where
  pub rules : (r : Rule) → is_chosen q.rules r ≡ has_bit bits r
  pub form : q.form ≡ forms.Record
  pub code : q.code ≡ Option.None
  pub ranges : q.ranges.now ≡ []

-- `lint` over a reader that gives s, and over a writer that holds v at its end; no read fails, and a write only where memory can't
-- hold v
abbrev pub IsLinted : (refuses cannot : ℕ → Type 0) → (keep_going : Bool) → Dialect → Strings → LintQuestion → (s v : List ℕ) → End
    → Type 0
IsLinted refuses cannot false dialect strings q s v end =
    (bytes : List ℕ) × (left : Option (List ℕ)) × Consumes (Some s) left bytes × ((linted : Result Linted RunFault)
    × Lints refuses dialect strings q SECTION_LIMIT bytes left (Some []) (Some v) linted × (linted ≢ Err run.Read)
    × ((out : ℕ) → linted ≡ Err (run.Write out) → CannotHold cannot v) × (end ≡ lint_end linted))
IsLinted refuses cannot true dialect strings q s v end =
    (bytes : List ℕ) × (left : Option (List ℕ)) × Consumes (Some s) left bytes × ((linted : Result LintedAround RunFault)
    × LintsAround refuses dialect strings q SECTION_LIMIT bytes left (Some []) (Some v) (λ told. ⊤) linted
    × (linted ≢ Err run.Read)
    × ((out : ℕ) → linted ≡ Err (run.Write out) → CannotHold cannot v) × (end ≡ lint_end_around linted))

-- v is the records of these findings, with which a room begins that held p, as far as they fit; and how many there are
pub record AreTold (v : List ℕ) (found : List Finding) (p q : List (List ℕ)) (n : ℕ) : Type 0 where
  pub all : v ≡ findings_text forms.Record found
  pub room : q ≡ written_over p (map finding_record found)
  pub count : n ≡ length found

-- of a room, a count and a fault, p, m and f before the call, and q, n and g after it, only what the status says is written
abbrev pub TellsFindings : (refuses : ℕ → Type 0) (v : List ℕ) → End → (p q : List (List ℕ)) (m n : ℕ) (f g : FaultRecord) → Status
    → Type 0
TellsFindings refuses v end p q m n f g status.Done =
    (end ≡ ends.Whole) × (v ≢ []) × ((found : List Finding) × AreTold v found p q n) × (g ≡ f)
TellsFindings refuses v end p q m n f g status.NoAnswer = (end ≡ ends.Whole) × (v ≡ []) × (q ≡ p) × (n ≡ m) × (g ≡ f)
TellsFindings refuses v end p q m n f g status.Fault =
    (end ≡ ends.Fault g) × ((found : List Finding) × AreTold v found p q n)
TellsFindings refuses v end p q m n f g status.NoMemory =
    ((end ≡ ends.NoMemory) ⊎ CannotHold refuses v) × (q ≡ p) × (n ≡ m) × (g ≡ f)
TellsFindings refuses v end p q m n f g other = ⊥

-- `findings`
abbrev pub FindsFindings : (refuses : ℕ → Type 0) → (keep_going : Bool) → Dialect → Strings → (bits : ℕ) (s : List ℕ)
    (p q : List (List ℕ)) (m n : ℕ) (f g : FaultRecord) → Status → Type 0
FindsFindings refuses keep_going dialect strings bits s p q m n f g result =
    (question : LintQuestion) × AsksForRecords bits question × ((v : List ℕ) × (end : End)
    × IsLinted refuses refuses keep_going dialect strings question s v end × TellsFindings refuses v end p q m n f g result)
