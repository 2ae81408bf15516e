-- What a check comes to.
use Rattle.dl_sections.proofs.Names.{◌≡◌, [], Appends, Appends-nil, arith, check_story, Checker, Checks, Consumes, Dialect}
use Rattle.dl_sections.proofs.Names.{ends, EndsAs, Err, HasPrinted, HasPrinted-nothing, inl, inr, keeps_by_nothing, List}
use Rattle.dl_sections.proofs.Names.{Ok, Option, Printed, Ran, refl, Result, RunFault, Summary, summary_line, TellsOut}
use Rattle.dl_sections.proofs.Names.{Write, ℕ}
use Rattle.dl_sections.proofs.Names.{sym}
use Rattle.dl_sections.proofs.Names.fault
use Rattle.dl_sections.specs.declared.around.Damage.{Damage}
use Rattle.dl_sections.specs.declared.around.Survey.{Survey}
use Rattle.dl_sections.specs.Around.{Block, EndsAround, faults_of, RanAround, Rest, visits_around}
use Rattle.dl_sections.specs.AroundCommands.{ChecksAround, counts_line}
use Rattle.dl_sections.specs.Checking.{HasChecked}
use Rattle.dl_sections.proofs.DamageLemmas.{damages_around}

-- nothing was told yet
pub begins : {D : Type 0} {hears : D → D → List Damage → Type 0} {first : Checker D} {start : Option (List ℕ)}
    → hears first.damages.now first.damages.now [] → HasChecked hears first first start start []
begins {start = start} none = record { damages = refl; heard = none; nothing = Appends-nil start }

module _ {D : Type 0} (hears : D → D → List Damage → Type 0) (dialect : Dialect) (limit : ℕ)
    (before left start mid : Option (List ℕ)) (first new : Checker D) (none : hears first.damages.now first.damages.now [])
  where
    -- the units were read, and nothing is written yet
    abbrev pub Reads : Result Summary RunFault → Type 0
    Reads result =
        (bytes : List ℕ) × Consumes before left bytes
        × (HasChecked hears first first start start [] → Appends start start []
        → Ran (check_story hears) dialect limit bytes left first new start mid result)

    abbrev pub Answers : (now : Option (List ℕ)) → Result Summary RunFault → Type 0
    Answers now result =
        (bytes : List ℕ) × Consumes before left bytes × Checks dialect limit bytes left start now result

    -- the section is units to its end
    counted : (summary : Summary) (read : Reads (Ok summary))
        → ((units : List (List ℕ)) × EndsAs dialect limit read.0 left units [] [] (Ok summary)) × Appends start mid []
    counted summary read = elim (read.2 (begins none) (Appends-nil start)) [
      | inl r ↦ ((r.0, r.1), r.2.out)
      | inr done ↦ absurd done.4.tells
    ]

    pub nothing_printed : (summary : Summary) → Reads (Ok summary) → (p : Printed) → p.pending ≡ [] → p.out ≡ 0
        → HasPrinted start mid [] p
    nothing_printed summary read p pending out = HasPrinted-nothing start mid p (counted summary read).1 pending out

    -- the line isn't out
    pub line_lost : (summary : Summary) → Reads (Ok summary) → (now : Option (List ℕ)) (out : ℕ)
        → TellsOut start now (summary_line summary) (fault.Write out) → Answers now (Err (fault.Write out))
    line_lost summary read now out t =
        let c = counted summary read in (read.0, read.1, (c.0.0, summary, c.0.1, t))

    -- the line is out
    pub line_out : (summary : Summary) → Reads (Ok summary) → (now : Option (List ℕ))
        → Appends start now (summary_line summary) → Answers now (Ok summary)
    line_out summary read now out = let c = counted summary read in (read.0, read.1, (c.0.0, c.0.1, out))

    pub failed : (f : RunFault) → Reads (Err f) → Answers mid (Err f)
    failed f read = (read.0, read.1, by f (read.2 (begins none) (Appends-nil start))) where
      by : (f : RunFault) → Ran (check_story hears) dialect limit read.0 left first new start mid (Err f)
          → Checks dialect limit read.0 left start mid (Err f)
      by (fault.Write out) ran = absurd (omega (arith, ran.4.3.0))
      by f (units, b, back, inl (ends, settled)) =
          (units, b, back, ends, keeps_by_nothing start mid [] refl settled.out)
      by f (units, b, back, inr (has, sound, stops)) = absurd stops.reason

-- ---- around damaged units; w: what was told of them, where it is still held

module _ {D : Type 0} (hears : D → D → List Damage → Type 0) (dialect : Dialect) (limit : ℕ)
    (before left start mid : Option (List ℕ)) (first new : Checker D) (w : D)
    (held : first.damages.ghost_name ≡ new.damages.ghost_name → w ≡ new.damages.now) where
  abbrev pub ReadsAround : Result Survey RunFault → Type 0
  ReadsAround result =
      (bytes : List ℕ) × Consumes before left bytes
      × (HasChecked hears first first start start [] → Appends start start []
      → RanAround (check_story hears) dialect limit bytes left first new start mid result)

  abbrev pub AnswersAround : (now : Option (List ℕ)) → Result Survey RunFault → Type 0
  AnswersAround now result =
      (bytes : List ℕ) × Consumes before left bytes × (hears first.damages.now first.damages.now []
      → ChecksAround dialect limit bytes left start now (hears first.damages.now w) result)

  -- it was told of all damage
  told_of : (blocks : List Block) (rest : Rest) → HasChecked hears first new start mid (visits_around dialect blocks rest)
      → hears first.damages.now w (faults_of blocks rest)
  told_of blocks rest told = rw (held (sym told.damages)) (rw (damages_around dialect blocks rest) at told.heard)

  -- the section is read to its end
  pub record Surveyed (survey : Survey) (bytes : List ℕ) : Type 0 where
    pub blocks : List Block
    pub rest : Rest
    pub ends : EndsAround dialect limit bytes left blocks rest (Ok survey)
    pub told : hears first.damages.now w (faults_of blocks rest)
    pub out : Appends start mid []

  pub surveyed : (survey : Survey) (read : ReadsAround (Ok survey)) → hears first.damages.now first.damages.now []
      → Surveyed survey read.0
  surveyed survey read none = elim (read.2 (begins none) (Appends-nil start)) [
    | inl r ↦ record { blocks = r.0; rest = r.1; ends = r.2; told = told_of r.0 r.1 r.3.tells; out = r.3.out }
    | inr done ↦ absurd done.4.tells
  ]

  -- the line of the counts isn't out
  pub counts_lost : (survey : Survey) (read : ReadsAround (Ok survey)) (now : Option (List ℕ)) (out : ℕ)
      → ((p : Appends start mid []) → TellsOut start now (counts_line survey) (fault.Write out))
      → AnswersAround now (Err (fault.Write out))
  counts_lost survey read now out t = (
    read.0,
    read.1,
    λ none. let s = surveyed survey read none in (s.blocks, s.rest, survey, s.ends, t s.out, s.told),
  )

  -- it is out
  pub counts_out : (survey : Survey) (read : ReadsAround (Ok survey)) (now : Option (List ℕ))
      → ((p : Appends start mid []) → Appends start now (counts_line survey)) → AnswersAround now (Ok survey)
  counts_out survey read now out = (
    read.0,
    read.1,
    λ none. let s = surveyed survey read none in (s.blocks, s.rest, s.ends, out s.out, s.told),
  )

  pub failed_around : (f : RunFault) → ReadsAround (Err f) → AnswersAround mid (Err f)
  failed_around f read = (read.0, read.1, λ none. by f (read.2 (begins none) (Appends-nil start))) where
    by : (f : RunFault) → RanAround (check_story hears) dialect limit read.0 left first new start mid (Err f)
        → ChecksAround dialect limit read.0 left start mid (hears first.damages.now w) (Err f)
    by (fault.Write out) ran = absurd (omega (arith, ran.4.3.0))
    by f (blocks, rest, inl (ends, settled)) =
        (blocks, rest, ends, keeps_by_nothing start mid [] refl settled.out, told_of blocks rest settled.tells)
    by f (blocks, rest, inr (others, cut, sound, stops)) = absurd stops.reason
