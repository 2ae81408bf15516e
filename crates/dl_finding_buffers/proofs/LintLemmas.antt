-- The text that `lint` writes in memory: records of findings, where it isn't cut off.
use Rattle.std.proofs.Common.{◌≡◌, ◌≢◌, ◌∙◌, ◌+◌, ◌<◌, ◌^◌, ℕ, List, [], length, Option, Some, Result, Ok, Err, IfOk, true, false, ap, arith, refl, subst, ⊎_elim}
use Rattle.std.specs.Prelude.{⊤, OnErr}
use Rattle.std.specs.Global.{Vec}
use Rattle.std.specs.Io.KnownBytes.{Consumes}
use Rattle.std.proofs.lemmas.List.{length-take-le}
use Rattle.dl_findings.specs.declared.finding.Finding.{Finding}
use Rattle.dl_findings.specs.declared.finding_told.FindingForm.{FindingForm}
use Rattle.dl_findings.specs.declared.finding_told.FindingForm.TheVariants as forms
use Rattle.dl_findings.specs.FindingTold.{findings_text}
use Rattle.dl_head.specs.declared.dialect.Dialect.{Dialect}
use Rattle.dl_held.specs.Holding.{CannotHold}
use Rattle.dl_lint.specs.Commands.{Lints, LintsAround}
use Rattle.dl_lint.specs.Findings.{all_findings, findings_in}
use Rattle.dl_lint.specs.declared.question.LintQuestion.{LintQuestion}
use Rattle.dl_lint.specs.declared.question.Linted.{Linted}
use Rattle.dl_lint.specs.declared.question.LintedAround.{LintedAround}
use Rattle.dl_memory.specs.declared.memory.NoMemory.{NoMemory}
use Rattle.dl_print.specs.Output.{HasOut}
use Rattle.dl_print.specs.ValueText.{Strings}
use Rattle.dl_sections.specs.Around.{visits_around}
use Rattle.dl_sections.specs.Blaming.{BlamesWriter}
use Rattle.dl_sections.specs.Section.{section_visits}
use Rattle.dl_sections.specs.declared.fault.RunFault.{RunFault}
use Rattle.dl_sections.specs.declared.fault.RunFault.TheVariants as run
use Rattle.dl_sections.specs.declared.options.TheConstants.{SECTION_LIMIT}
use Rattle.dl_source_buffers.specs.declared.end.End.{End}
use Rattle.dl_source_buffers.specs.declared.end.End.TheVariants as ends
use Rattle.dl_finding_buffers.specs.FindingCalls.{IsLinted, lint_end, lint_end_around}
use Rattle.dl_finding_buffers.specs.FindingsHeld.{IsHeld}

-- v is the records of some findings
abbrev pub IsOfFindings : List ℕ → Type 0
IsOfFindings v = (found : List Finding) × (v ≡ findings_text forms.Record found)

in_form : (q : LintQuestion) → q.form ≡ forms.Record → (v : List ℕ) (found : List Finding)
    → v ≡ findings_text q.form found → IsOfFindings v
in_form q is v found told = (found, told ∙ ap (λ (form : FindingForm). findings_text form found) is)

-- ---- where a write failed

written_len : (text v : List ℕ) (out : ℕ) → HasOut (Some []) (Some v) text out → length v ≡ out
written_len text v out has = ap length has.written ∙ length-take-le out text has.within

-- no write of what is held fails before more bytes are out than a list can have
not_held : (cannot : ℕ → Type 0) (text v : List ℕ) (out : ℕ) (records : Result (Vec ℕ) NoMemory)
    → IfOk records (λ list. list.items ≡ v) → OnErr records (CannotHold cannot v)
    → (out + 2 ^ 64 < 2 ^ 128 → ⊥) → HasOut (Some []) (Some v) text out → CannotHold cannot v
not_held cannot text v out (Err e) held refused blamed has = refused
not_held cannot text v out (Ok list) held refused blamed has =
    absurd (blamed (omega (arith, list.ok.0, list.ok.1, list.small, ap length held, written_len text v out has)))

-- ---- up to the first fault

module _ (refuses cannot : ℕ → Type 0) (dialect : Dialect) (s : Strings) (q : LintQuestion) (is : q.form ≡ forms.Record)
    (limit : ℕ) (bytes v : List ℕ) (left : Option (List ℕ)) where
  abbrev Written : Result Linted RunFault → Type 0
  Written linted = Lints refuses dialect s q limit bytes left (Some []) (Some v) linted

  found_in : (linted : Result Linted RunFault) → Written linted → lint_end linted ≢ ends.NoMemory → IsOfFindings v
  found_in (Ok linted) l some = in_form q is v (all_findings s q (section_visits dialect l.0 [])) l.3
  found_in (Err (run.Damage offset kind)) l some = in_form q is v (findings_in s q (section_visits dialect l.0 l.1)) l.4
  found_in (Err run.SectionTooLong) l some = in_form q is v (findings_in s q (section_visits dialect l.0 l.1)) l.4
  found_in (Err run.NoMemory) l some = absurd (some refl)
  found_in (Err run.Read) l some = absurd (some refl)
  found_in (Err (run.Write out)) l some = absurd (some refl)
  found_in (Err run.NotFound) l some = absurd (some refl)
  found_in (Err run.TwoSums) l some = absurd (some refl)
  found_in (Err run.NoUnit) l some = absurd (some refl)
  found_in (Err (run.ForeignUnit unit)) l some = absurd (some refl)
  found_in (Err (run.Emit unit fault)) l some = absurd (some refl)

  cannot_write : (linted : Result Linted RunFault) (records : Result (Vec ℕ) NoMemory) → Written linted → BlamesWriter ⊥ linted
      → IfOk records (λ list. list.items ≡ v) → OnErr records (CannotHold cannot v)
      → (out : ℕ) → linted ≡ Err (run.Write out) → CannotHold cannot v
  cannot_write linted records l blames held refused out fails =
      let blamed : out + 2 ^ 64 < 2 ^ 128 → ⊥ = subst (BlamesWriter ⊥) fails blames in
      let ended : Written (Err (run.Write out)) = subst Written fails l in
      ⊎_elim
      (λ begun. not_held cannot _ v out records held refused blamed begun.4.1)
      (λ whole. not_held cannot _ v out records held refused blamed whole.2.1)
      ended

-- ---- around damaged units

module _ (refuses cannot : ℕ → Type 0) (dialect : Dialect) (s : Strings) (q : LintQuestion) (is : q.form ≡ forms.Record)
    (limit : ℕ) (bytes v : List ℕ) (left : Option (List ℕ)) where
  abbrev WrittenAround : Result LintedAround RunFault → Type 0
  WrittenAround linted = LintsAround refuses dialect s q limit bytes left (Some []) (Some v) (λ told. ⊤) linted

  found_around : (linted : Result LintedAround RunFault) → WrittenAround linted → lint_end_around linted ≢ ends.NoMemory → IsOfFindings v
  found_around (Ok linted) l some = in_form q is v (all_findings s q (visits_around dialect l.0 l.1)) l.4
  found_around (Err (run.Damage offset kind)) l some = in_form q is v (findings_in s q (visits_around dialect l.0 l.1)) l.3
  found_around (Err run.SectionTooLong) l some = in_form q is v (findings_in s q (visits_around dialect l.0 l.1)) l.3
  found_around (Err run.NoMemory) l some = absurd (some refl)
  found_around (Err run.Read) l some = absurd (some refl)
  found_around (Err (run.Write out)) l some = absurd (some refl)
  found_around (Err run.NotFound) l some = absurd (some refl)
  found_around (Err run.TwoSums) l some = absurd (some refl)
  found_around (Err run.NoUnit) l some = absurd (some refl)
  found_around (Err (run.ForeignUnit unit)) l some = absurd (some refl)
  found_around (Err (run.Emit unit fault)) l some = absurd (some refl)

  cannot_write_around : (linted : Result LintedAround RunFault) (records : Result (Vec ℕ) NoMemory) → WrittenAround linted → BlamesWriter ⊥ linted
      → IfOk records (λ list. list.items ≡ v) → OnErr records (CannotHold cannot v)
      → (out : ℕ) → linted ≡ Err (run.Write out) → CannotHold cannot v
  cannot_write_around linted records l blames held refused out fails =
      let blamed : out + 2 ^ 64 < 2 ^ 128 → ⊥ = subst (BlamesWriter ⊥) fails blames in
      let ended : WrittenAround (Err (run.Write out)) = subst WrittenAround fails l in
      ⊎_elim
      (λ begun. not_held cannot _ v out records held refused blamed begun.4.1)
      (λ whole. not_held cannot _ v out records held refused blamed whole.3.1)
      ended

-- `lint` over a writer that held nothing, and up to that limit
module _ (refuses cannot : ℕ → Type 0) (dialect : Dialect) (strings : Strings) (q : LintQuestion) (is : q.form ≡ forms.Record)
    (s v start : List ℕ) (empty : start ≡ []) (limit : ℕ) (whole : limit ≡ SECTION_LIMIT) (left : Option (List ℕ)) (end : End)
    (records : Result (Vec ℕ) NoMemory) (held : IfOk records (λ list. list.items ≡ v)) (refused : OnErr records (CannotHold cannot v))
  where
    pub linted_to_fault : (linted : Result Linted RunFault)
        → ((bytes : List ℕ) × Consumes (Some s) left bytes × Lints refuses dialect strings q limit bytes left (Some start) (Some v) linted)
        → linted ≢ Err run.Read → BlamesWriter ⊥ linted → end ≡ lint_end linted
        → IsLinted refuses cannot false dialect strings q s v end × IsHeld cannot v end records
    linted_to_fault linted ran reads blames ends_so =
        let l = subst (λ (n : ℕ). Lints refuses dialect strings q n ran.0 left (Some []) (Some v) linted) whole
        (subst (λ (before : List ℕ). Lints refuses dialect strings q limit ran.0 left (Some before) (Some v) linted) empty ran.2) in (
          (
            ran.0,
            left,
            ran.1,
            (
              linted,
              l,
              reads,
              cannot_write refuses cannot dialect strings q is SECTION_LIMIT ran.0 v left linted records l blames held refused,
              ends_so,
            ),
          ),
          (
            (λ some. found_in refuses cannot dialect strings q is SECTION_LIMIT ran.0 v left linted l
                (λ e. some (ends_so ∙ e))),
            held,
            refused,
          ),
        )

    pub linted_around : (linted : Result LintedAround RunFault)
        → ((bytes : List ℕ) × Consumes (Some s) left bytes × LintsAround refuses dialect strings q limit bytes left (Some start) (Some v) (λ told. ⊤) linted)
        → linted ≢ Err run.Read → BlamesWriter ⊥ linted → end ≡ lint_end_around linted
        → IsLinted refuses cannot true dialect strings q s v end × IsHeld cannot v end records
    linted_around linted ran reads blames ends_so =
        let l = subst (λ (n : ℕ). LintsAround refuses dialect strings q n ran.0 left (Some []) (Some v) (λ told. ⊤) linted) whole
        (subst (λ (before : List ℕ). LintsAround refuses dialect strings q limit ran.0 left (Some before) (Some v) (λ told. ⊤) linted) empty ran.2) in (
          (
            ran.0,
            left,
            ran.1,
            (
              linted,
              l,
              reads,
              cannot_write_around refuses cannot dialect strings q is SECTION_LIMIT ran.0 v left linted records l blames held refused,
              ends_so,
            ),
          ),
          (
            (λ some. found_around refuses cannot dialect strings q is SECTION_LIMIT ran.0 v left linted l
                (λ e. some (ends_so ∙ e))),
            held,
            refused,
          ),
        )
