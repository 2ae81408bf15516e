-- What the findings of a section come to.
use Rattle.std.proofs.Common.{◌≡◌, ◌∙◌, ℕ, List, [], ◌∷◌, ◌++◌, Option, Result, Ok, Err, None, inl, inr, refl, sym, ap, subst, ◌⊎◌}
use Rattle.std.specs.Prelude.{⊤, IfOk}
use Rattle.std.proofs.KnownBytes.{Appends-nil}
use Rattle.std.specs.Io.KnownBytes.{Appends, Consumes}
use Rattle.dl_head.specs.declared.dialect.Dialect.{Dialect}
use Rattle.dl_print.specs.ValueText.{Strings}
use Rattle.dl_print.specs.declared.summary.Summary.{Summary}
use Rattle.dl_sections.specs.Around.{Block, RanAround, Rest, faults_of, visits_around}
use Rattle.dl_sections.specs.declared.around.Damage.{Damage}
use Rattle.dl_sections.specs.declared.around.Survey.{Survey}
use Rattle.dl_sections.specs.declared.fault.RunFault.{RunFault}
use Rattle.dl_sections.specs.declared.fault.RunFault.TheVariants as fault
use Rattle.dl_sections.specs.DamageTold.{damages_told}
use Rattle.dl_sections.specs.RunOutput.{TellsOut}
use Rattle.dl_sections.specs.Section.{Visit, section_visits}
use Rattle.dl_sections.specs.Visiting.{Ran, VisitorStops, WritesFront}
use Rattle.dl_sections.proofs.DamageLemmas.{damages_around}
use Rattle.dl_sections.proofs.EndLemmas.{only_left}
use Rattle.dl_sections.proofs.OutLemmas.{TellsOut-more}
use Rattle.dl_findings.specs.declared.counts.FindingCounts.{FindingCounts}
use Rattle.dl_lint.specs.declared.linting.Linter.{Linter}
use Rattle.dl_lint.specs.declared.question.LintedAround.{LintedAround}
use Rattle.dl_lint.specs.declared.question.LintQuestion.{LintQuestion}
use Rattle.dl_lint.specs.Commands.{Lints, LintsAround, StopsAtOne, text_of}
use Rattle.dl_lint.specs.Findings.{findings_after, findings_in}
use Rattle.dl_findings.specs.FindingTold.{findings_text}
use Rattle.dl_lint.specs.Linting.{FinishesBy, HasLinted, RefusesSome, ends_by, lint_story, strings_of}
use Rattle.dl_lint.specs.declared.question.Linted.{Linted}
use Rattle.dl_lint.proofs.FindingLemmas.{findings-append, text-append}
use Rattle.dl_lint.proofs.LintingLemmas.{last_or-push}
use Rattle.dl_lint.proofs.SectionLemmas.{Ends}
use Rattle.dl_lint.specs.Finishing.{FinishesAround}

-- what was found beside what the units come to
abbrev pub with_summary : Summary → Result FindingCounts RunFault → Result Linted RunFault
with_summary summary (Ok counts) = Ok (record { summary = summary; counts = counts })
with_summary summary (Err f) = Err f

abbrev pub with_survey : Survey → Result FindingCounts RunFault → Result LintedAround RunFault
with_survey survey (Ok counts) = Ok (record { survey = survey; counts = counts })
with_survey survey (Err f) = Err f

module _ {M D : Type 0} (refuses : M → ℕ → Type 0) (hears : D → D → List Damage → Type 0) (dialect : Dialect) (limit : ℕ)
    (bytes : List ℕ) (left : Option (List ℕ)) (first new : Linter M D) (start : Option (List ℕ)) where
  abbrev s : Strings
  s = strings_of first

  abbrev q : LintQuestion
  q = first.report.question.now

  abbrev wants : ℕ → Type 0
  wants = refuses first.memory.now

  -- what is out of the text of some visits is out of that of all
  fronts : (now : Option (List ℕ)) (visits : List Visit) (out : ℕ)
      → WritesFront (lint_story refuses hears) first start now visits (fault.Write out)
      → TellsOut start now (text_of s q visits) (fault.Write out)
  fronts now visits out writes =
      let some = findings_in s q writes.0 in
      let more = findings_after s q writes.0 writes.1 in
      subst (λ (l : List ℕ). TellsOut start now l (fault.Write out))
      (sym (text-append q.form some more) ∙ ap (findings_text q.form) (sym (findings-append s q [] writes.0 writes.1))
      ∙ ap (λ (l : List Visit). findings_text q.form (findings_in s q l)) (sym writes.2))
      (TellsOut-more start now (findings_text q.form some) (findings_text q.form more) (fault.Write out) writes.3)

  -- memory was refused at a visit
  at_one : (now : Option (List ℕ)) (visits : List Visit) (told : List Damage → Type 0)
      → (stops : VisitorStops (lint_story refuses hears) first new start now visits fault.NoMemory)
      → told (damages_told stops.before) → StopsAtOne wants s q start now visits told
  at_one now visits told stops heard = (
    stops.before,
    stops.visit,
    stops.more,
    stops.whole,
    subst (RefusesSome wants q (stops.before ++ stops.visit ∷ [])) (last_or-push None stops.before stops.visit) stops.reason.1,
    stops.out,
    heard,
  )

  -- the section isn't read to its end
  pub lints_some : (now : Option (List ℕ)) (f : RunFault) → Ran (lint_story refuses hears) dialect limit bytes left first new start now (Err f)
      → Lints wants dialect s q limit bytes left start now (Err f)
  lints_some now (fault.Write out) ran = inl (ran.0, ran.1, ran.2, ran.3, fronts now _ out ran.4)
  lints_some now fault.NoMemory (units, b, back, inl (ends, settled)) = inl (units, b, back, inl (ends, settled.out))
  lints_some now fault.NoMemory (units, b, back, inr (has, sound, stops)) =
      inl (units, b, back, inr (has, at_one now _ (λ told. ⊤) stops tt))
  lints_some now f (units, b, back, inl (ends, settled)) = (units, b, back, ends, settled.out)
  lints_some now f (units, b, back, inr (has, sound, stops)) = absurd (let e = stops.reason.0 in cc)

  -- or it is
  module _ (mid now : Option (List ℕ)) where
    pub lints_all : (summary : Summary)
        → Ran (lint_story refuses hears) dialect limit bytes left first new start mid (Ok summary)
        → (counts : Result FindingCounts RunFault) → Ends refuses hears first new start mid now counts
        → Lints wants dialect s q limit bytes left start now (with_summary summary counts)
    lints_all summary (inl (units, ends, settled)) counts finishes =
        by counts (finishes _ settled.tells settled.out) where
          by : (counts : Result FindingCounts RunFault) → FinishesBy refuses first start now (section_visits dialect units []) counts
              → Lints wants dialect s q limit bytes left start now (with_summary summary counts)
          by (Ok counts) told = (units, ends, told.0, told.1)
          by (Err (fault.Write out)) told = inr (units, (summary, ends), told)
          by (Err fault.NoMemory) told = inr (units, (summary, ends), told)
          by (Err f) told = absurd told
    lints_all summary (inr done) counts finishes = absurd done.4.tells

  -- around damaged units; last: the linter at the end, which was told of the same ones; w: what was told of them, where it is still
  -- held
  module _ (last : Linter M D) (same : last.damages ≡ new.damages) (w : D)
      (held : first.damages.ghost_name ≡ last.damages.ghost_name → w ≡ last.damages.now) where
    abbrev Told : List Damage → Type 0
    Told = hears first.damages.now w

    is_held : new.damages.ghost_name ≡ first.damages.ghost_name → w ≡ new.damages.now
    is_held e = rw (← same) (held (rw same (sym e)))

    told_of : (now : Option (List ℕ)) (blocks : List Block) (rest : Rest)
        → HasLinted hears first new start now (visits_around dialect blocks rest) → Told (faults_of blocks rest)
    told_of now blocks rest told = rw (is_held told.damages) (rw (damages_around dialect blocks rest) at told.heard)

    told_before : (now : Option (List ℕ)) (before : List Visit) → HasLinted hears first new start now before
        → Told (damages_told before)
    told_before now before told = rw (is_held told.damages) told.heard

    -- the section isn't read to its end
    pub stops_around : (now : Option (List ℕ)) (f : RunFault)
        → RanAround (lint_story refuses hears) dialect limit bytes left first new start now (Err f)
        → LintsAround wants dialect s q limit bytes left start now Told (Err f)
    stops_around now (fault.Write out) ran = inl (ran.0, ran.1, ran.2, ran.3, fronts now _ out ran.4)
    stops_around now fault.NoMemory (blocks, rest, inl (ends, settled)) =
        inl (blocks, rest, inl (ends, settled.out, told_of now blocks rest settled.tells))
    stops_around now fault.NoMemory (blocks, rest, inr (others, cut, sound, stops)) =
        inl (blocks, rest, inr (others, cut, at_one now _ Told stops (told_before now stops.before stops.tells)))
    stops_around now f (blocks, rest, inl (ends, settled)) =
        (blocks, rest, ends, settled.out, told_of now blocks rest settled.tells)
    stops_around now f (blocks, rest, inr (others, cut, sound, stops)) = absurd (let e = stops.reason.0 in cc)

    -- or it is
    module _ (mid now : Option (List ℕ)) (survey : Survey) where
      pub lints_around : RanAround (lint_story refuses hears) dialect limit bytes left first new start mid (Ok survey)
          → (counts : Result FindingCounts RunFault) → Ends refuses hears first new start mid now counts
          → LintsAround wants dialect s q limit bytes left start now Told (with_survey survey counts)
      lints_around (inl (blocks, rest, ends, settled)) counts finishes =
          by counts (finishes _ settled.tells settled.out) where
            by : (counts : Result FindingCounts RunFault) → FinishesBy refuses first start now (visits_around dialect blocks rest) counts
                → LintsAround wants dialect s q limit bytes left start now Told (with_survey survey counts)
            by (Ok counts) told = (blocks, rest, ends, told.0, told.1, told_of mid blocks rest settled.tells)
            by (Err (fault.Write out)) told = inr (blocks, rest, (survey, ends), told, told_of mid blocks rest settled.tells)
            by (Err fault.NoMemory) told = inr (blocks, rest, (survey, ends), told, told_of mid blocks rest settled.tells)
            by (Err f) told = absurd told
      lints_around (inr done) counts finishes = absurd done.4.tells

-- ---- the end of the section has no fault of a read

module _ {M D : Type 0} (refuses : M → ℕ → Type 0) (hears : D → D → List Damage → Type 0) (dialect : Dialect) (limit : ℕ)
    (bytes : List ℕ) (left : Option (List ℕ)) (first new : Linter M D) (start mid now : Option (List ℕ)) where
  not_read : (summary : Summary)
      → Ran (lint_story refuses hears) dialect limit bytes left first new start mid (Ok summary)
      → Ends refuses hears first new start mid now (Err fault.Read) → ⊥
  not_read summary (inl (units, ends, settled)) finishes = finishes _ settled.tells settled.out
  not_read summary (inr done) finishes = absurd done.4.tells

  pub not_blamed : (summary : Summary)
      → Ran (lint_story refuses hears) dialect limit bytes left first new start mid (Ok summary)
      → (f : RunFault) → Ends refuses hears first new start mid now (Err f) → ◌≡◌ {A = Result Summary RunFault} (Err f) (Err fault.Read) → ⊥
  not_blamed summary ran fault.Read finishes e = not_read summary ran finishes
  not_blamed summary ran f finishes e = absurd cc

-- ---- around damaged units, by what was read and what was told behind it; w: what was told of damaged units, where it is still held

module _ {M D : Type 0} (refuses : M → ℕ → Type 0) (hears : D → D → List Damage → Type 0) (dialect : Dialect) (limit : ℕ)
    (before left start now : Option (List ℕ)) (first last : Linter M D)
    (begun : hears first.damages.now first.damages.now [] → HasLinted hears first first start start []) (w : D)
    (held : first.damages.ghost_name ≡ last.damages.ghost_name → w ≡ last.damages.now) (result : Result LintedAround RunFault) where
  abbrev pub ReadsAround : Type 0
  ReadsAround =
      (bytes : List ℕ) × Consumes before left bytes
      × (HasLinted hears first first start start [] → Appends start start []
      → FinishesAround (lint_story refuses hears) (ends_by refuses hears) dialect limit bytes left first last start now result)

  abbrev pub AnswersAround : Type 0
  AnswersAround =
      (bytes : List ℕ) × Consumes before left bytes × (hears first.damages.now first.damages.now []
      → LintsAround (refuses first.memory.now) dialect (strings_of first) first.report.question.now limit bytes left start now
      (hears first.damages.now w) result)

-- what is answered
module _ {M D : Type 0} (refuses : M → ℕ → Type 0) (hears : D → D → List Damage → Type 0) (dialect : Dialect) (limit : ℕ)
    (bytes : List ℕ) (left start now : Option (List ℕ)) (first last : Linter M D) (w : D)
    (held : first.damages.ghost_name ≡ last.damages.ghost_name → w ≡ last.damages.now) where
  answered : (result : Result LintedAround RunFault)
      → FinishesAround (lint_story refuses hears) (ends_by refuses hears) dialect limit bytes left first last start now result
      → LintsAround (refuses first.memory.now) dialect (strings_of first) first.report.question.now limit bytes left start now
      (hears first.damages.now w) result
  answered (Ok linted) (read, mid, ran, ends) =
      lints_around refuses hears dialect limit bytes left first read start last ends.0 w held mid now linted.survey ran
      (Ok linted.counts) (ends.1 first start)
  answered (Err f) (inl ran) = stops_around refuses hears dialect limit bytes left first last start last refl w held now f ran
  answered (Err f) (inr (survey, read, mid, ran, ends)) =
      lints_around refuses hears dialect limit bytes left first read start last ends.0 w held mid now survey ran (Err f)
      (ends.1 first start)

pub reads_around : {M D : Type 0} (refuses : M → ℕ → Type 0) (hears : D → D → List Damage → Type 0) (dialect : Dialect) (limit : ℕ)
    (before left start now : Option (List ℕ)) (first last : Linter M D)
    (begun : hears first.damages.now first.damages.now [] → HasLinted hears first first start start []) (w : D)
    (held : first.damages.ghost_name ≡ last.damages.ghost_name → w ≡ last.damages.now) (result : Result LintedAround RunFault)
    → ReadsAround refuses hears dialect limit before left start now first last begun w held result
    → AnswersAround refuses hears dialect limit before left start now first last begun w held result
reads_around refuses hears dialect limit before left start now first last begun w held result read = (
  read.0,
  read.1,
  λ none. answered refuses hears dialect limit read.0 left start now first last w held result
      (read.2 (begun none) (Appends-nil start)),
)

-- the reading never ends before the end
pub never_wanted : (Over Done : Type 0) (result : Result LintedAround RunFault) → (Done → ⊥)
    → IfOk result (λ linted. linted.survey.damaged ≡ None → Over ⊎ Done)
    → IfOk result (λ linted. linted.survey.damaged ≡ None → Over)
never_wanted Over Done (Ok linted) never over = λ whole. only_left never (over whole)
never_wanted Over Done (Err f) never over = tt
