-- A walk over members that has gone through the first of them. No promise rests on this file.
use Rattle.std.specs.Prelude.{◌≡◌, ◌≤◌, ◌^◌, ◌+◌, ◌-◌, ℕ, List, [], ◌∷◌, ◌++◌, max, min, Option, Some, None, Result, Ok, Err}
use Rattle.std.specs.declared.io.Error.{Error}
use Rattle.dl_archive.specs.Archive.{MemberData}
use Rattle.dl_archive.specs.declared.fault.ArchiveFault.{ArchiveFault}
use Rattle.dl_archive.specs.declared.fault.ArchiveFault.TheVariants.{Damaged, Read}
use Rattle.dl_cmd.specs.Job.{Request, Text}
use Rattle.dl_sections.specs.declared.around.Damage.{Damage}
use Rattle.dl_program.specs.declared.stop.Stop.{Stop}
use Rattle.dl_member.specs.Walking.{AtMember, Steps, passed_over, worst}
use Rattle.dl_member.specs.declared.counts.Counts.{Counts}
use Rattle.dl_member.specs.declared.step.Step.{Step}

-- a step is taken of the first member that is left, or none: left, others: which members are left before and behind it, and where the
-- archive is damaged behind them
module _ {T U : Type 0} (refuses : ℕ → Type 0) (held : Text → Option (List ℕ)) (fails : Text → Error → Type 0) (writes : Type 0)
    (request : Request) (hears : T → T → List Damage → Type 0) (tells : T → T → Stop → Type 0) (fails_archive : Error → Type 0)
    (bytes_of : U → Option (List ℕ)) (fails_of : U → Error → Type 0) (f : List ℕ) (path : Text) where
  abbrev pub NextStep : (left others : List MemberData × Option ℕ) (start now : Option (List ℕ)) (old new : T)
      → Result (Option Step) ArchiveFault → Type 0
  NextStep left others start now old new (Ok (Some step)) =
      (m : MemberData) × (left ≡ (m ∷ others.0, others.1))
      × AtMember refuses held fails writes request hears tells fails_archive bytes_of fails_of f path m start now old new step
  NextStep left others start now old new (Ok None) = (left ≡ ([], None)) × (now ≡ start) × (new ≡ old)
  NextStep left others start now old new (Err (Damaged at)) = (left ≡ ([], Some at)) × (now ≡ start) × (new ≡ old)
  NextStep left others start now old new (Err (Read error)) = fails_archive error × (now ≡ start) × (new ≡ old)

  -- of all members the first were gone through, with these steps
  pub record HasGone (all left : List MemberData × Option ℕ) (steps : List Step) (start now : Option (List ℕ)) (old new : T) : Type 0 where
    pub first : List MemberData
    pub cut : all.0 ≡ first ++ left.0
    pub damage : all.1 ≡ left.1
    pub done : Steps refuses held fails writes request hears tells fails_archive bytes_of fails_of f path first steps start now old new

-- counts with those of these steps added
abbrev pub Adds : (old new : Counts) → List Step → Type 0
Adds old new steps =
    (new.worst ≡ max old.worst (worst steps))
    × (old.passed_over ≤ 2 ^ 64 - 1 → new.passed_over ≡ min (old.passed_over + passed_over steps) (2 ^ 64 - 1))
