-- A reading around damaged units, and what is told behind it of the section as a whole. No promise rests on this file.
use Rattle.std.specs.Prelude.{◌⊎◌, ℕ, List, Option, Result, Ok, Err}
use Rattle.dl_head.specs.declared.dialect.Dialect.{Dialect}
use Rattle.dl_sections.specs.Around.{RanAround}
use Rattle.dl_sections.specs.Ending.{WantsNoMore}
use Rattle.dl_sections.specs.Visiting.{Story}
use Rattle.dl_sections.specs.declared.around.Survey.{Survey}
use Rattle.dl_sections.specs.declared.fault.RunFault.{RunFault}
use Rattle.dl_findings.specs.declared.counts.FindingCounts.{FindingCounts}
use Rattle.dl_lint.specs.declared.question.LintedAround.{LintedAround}

-- the units are read to the end and then the end is told; or the reading ends before that. ends: what is said of telling the end
abbrev pub FinishesAround : {S : Type 0} → Story S
    → (ends : S → S → Option (List ℕ) → Option (List ℕ) → Result FindingCounts RunFault → Type 0) → Dialect
    → (limit : ℕ) (bytes : List ℕ) (left : Option (List ℕ)) (first new : S) (start now : Option (List ℕ))
    → Result LintedAround RunFault → Type 0
FinishesAround {S} story ends dialect limit bytes left first new start now (Ok linted) =
    (read : S) × (held : Option (List ℕ)) × RanAround story dialect limit bytes left first read start held (Ok linted.survey)
    × ends read new held now (Ok linted.counts)
FinishesAround {S} story ends dialect limit bytes left first new start now (Err f) =
    RanAround story dialect limit bytes left first new start now (Err f)
    ⊎ ((survey : Survey) × (read : S) × (held : Option (List ℕ))
    × RanAround story dialect limit bytes left first read start held (Ok survey) × ends read new held now (Err f))

-- the visitor wanted nothing more
abbrev pub WantedNoMore : {S : Type 0} → Story S → (first : S) (start : Option (List ℕ)) → Type 0
WantedNoMore {S} story first start = (read : S) × (held : Option (List ℕ)) × WantsNoMore story first read start held
