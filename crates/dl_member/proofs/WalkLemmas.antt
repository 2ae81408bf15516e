-- The steps of a walk over members, and their counts.
use Rattle.std.proofs.Common.{◌≡◌, ◌∙◌, ◌+◌, ℕ, List, [], ◌∷◌, ◌++◌, max, Option, Some, Result, Ok, Err}
use Rattle.std.proofs.Common.{refl, sym, ap, subst, arith, append_assoc}
use Rattle.std.specs.Prelude.{⊤}
use Rattle.std.specs.declared.io.Error.{Error}
use Rattle.dl_archive.specs.Archive.{MemberData}
use Rattle.dl_archive.specs.declared.fault.ArchiveFault.{ArchiveFault}
use Rattle.dl_cmd.specs.Job.{Request, Text}
use Rattle.dl_print.specs.declared.fault.WriteFault.{WriteFault}
use Rattle.dl_sections.specs.declared.around.Damage.{Damage}
use Rattle.dl_program.specs.declared.stop.Stop.{Stop}
use Rattle.dl_member.specs.Onward.{Adds, HasGone, NextStep}
use Rattle.dl_member.specs.Walking.{AreCounted, AtMember, Ends, IsWritten, Steps, passed_over, worst}
use Rattle.dl_member.specs.declared.counts.Counts.{Counts}
use Rattle.dl_member.specs.declared.fault.WalkFault.{WalkFault}
use Rattle.dl_member.specs.declared.fault.WalkFault.TheVariants as end
use Rattle.dl_member.specs.declared.step.Step.{Step}
use Rattle.dl_member.specs.declared.step.Step.TheVariants.{Done, PassedOver, Unwritten}

-- ---- counts

worst-append : (a b : List Step) → worst (a ++ b) ≡ max (worst a) (worst b)
worst-append [] b = omega arith
worst-append (Done status ∷ a) b = omega (arith, worst-append a b)
worst-append (PassedOver ∷ a) b = worst-append a b
worst-append (Unwritten fault ∷ a) b = worst-append a b

passed_over-append : (a b : List Step) → passed_over (a ++ b) ≡ passed_over a + passed_over b
passed_over-append [] b = omega arith
passed_over-append (PassedOver ∷ a) b = omega (arith, passed_over-append a b)
passed_over-append (Done status ∷ a) b = passed_over-append a b
passed_over-append (Unwritten fault ∷ a) b = passed_over-append a b

pub adds_none : (counts : Counts) → Adds counts counts []
adds_none counts = (omega arith, λ fits. omega (arith, fits))

pub adds_more : (first old new : Counts) (steps : List Step) (step : Step) → Adds first old steps → Adds old new (step ∷ [])
    → Adds first new (steps ++ step ∷ [])
adds_more first old new steps step before after =
    let w = worst-append steps (step ∷ []) in
    let p = passed_over-append steps (step ∷ []) in (
      omega (arith, before.0, after.0, w),
      λ fits.
          let o = before.1 fits in
          omega (arith, o, after.1 (omega (arith, o)), p),
    )

-- what isn't counted changes nothing
pub adds_unwritten : (first old new : Counts) (steps : List Step) (step : Step) (fault : WriteFault) → step ≡ Unwritten fault
    → Adds first old steps → Adds old new (step ∷ []) → Adds first new steps
adds_unwritten first old new steps step fault is before counted =
    let after = subst (λ (s : Step). Adds old new (s ∷ [])) is counted in (
      omega (arith, before.0, after.0),
      λ fits.
          let o = before.1 fits in
          omega (arith, o, after.1 (omega (arith, o))),
    )

pub counted : (first new : Counts) (steps : List Step) → first.worst ≡ 0 → first.passed_over ≡ 0 → Adds first new steps
    → AreCounted new steps
counted first new steps well none adds =
    (omega (arith, adds.0, well), omega (arith, adds.1 (omega (arith, none)), none))

-- ---- steps

module _ {T U : Type 0} (refuses : ℕ → Type 0) (held : Text → Option (List ℕ)) (fails : Text → Error → Type 0) (writes : Type 0)
    (request : Request) (hears : T → T → List Damage → Type 0) (tells : T → T → Stop → Type 0) (fails_archive : Error → Type 0)
    (bytes_of : U → Option (List ℕ)) (fails_of : U → Error → Type 0) (f : List ℕ) (path : Text) where
  abbrev at : MemberData → (start now : Option (List ℕ)) (old new : T) → Step → Type 0
  at = AtMember refuses held fails writes request hears tells fails_archive bytes_of fails_of f path

  abbrev come : List MemberData → List Step → (start now : Option (List ℕ)) (old new : T) → Type 0
  come = Steps refuses held fails writes request hears tells fails_archive bytes_of fails_of f path

  abbrev gone : (all left : List MemberData × Option ℕ) (steps : List Step) (start now : Option (List ℕ)) (old new : T) → Type 0
  gone = HasGone refuses held fails writes request hears tells fails_archive bytes_of fails_of f path

  abbrev ends : List MemberData → Option ℕ → List Step → (start now : Option (List ℕ)) (old new : T) → Result ⊤ WalkFault → Type 0
  ends = Ends refuses held fails writes request hears tells fails_archive bytes_of fails_of f path

  -- one more
  step_more : (first : List MemberData) (m : MemberData) (steps : List Step) (step : Step) (start between now : Option (List ℕ))
      (old told new : T) → come first steps start between old told → at m between now told new step → IsWritten step
      → come (first ++ m ∷ []) (steps ++ step ∷ []) start now old new
  step_more [] m steps step start between now old told new done more written =
      rw done.0 (step, [], refl, now, new, rw (sym done.1, sym done.2) more, written, (refl, refl, refl))
  step_more (m' ∷ first) m steps step start between now old told new done more written =
      let (step', others, is, between', told', one, was, later) = done in (
        step',
        others ++ step ∷ [],
        ap (λ s. s ++ step ∷ []) is,
        between',
        told',
        one,
        was,
        step_more first m others step between' between now told' told new later more written,
      )

  pub gone_none : (all : List MemberData × Option ℕ) (start : Option (List ℕ)) (old : T) → gone all all [] start start old old
  gone_none all start old = record { first = []; cut = refl; damage = refl; done = (refl, refl, refl) }

  module _ (all left others : List MemberData × Option ℕ) (steps : List Step) (start between now : Option (List ℕ)) (old told new : T)
      (before : gone all left steps start between old told) where
    abbrev next : Result (Option Step) ArchiveFault → Type 0
    next = NextStep refuses held fails writes request hears tells fails_archive bytes_of fails_of f path left others between now told new

    -- the next member was gone through too
    pub gone_more : (o : Option Step) (step : Step) → next (Ok o) → o ≡ Some step → IsWritten step
        → gone all others (steps ++ step ∷ []) start now old new
    gone_more o step came is written = by (subst (λ (o : Option Step). next (Ok o)) is came) where
      by : next (Ok (Some step)) → gone all others (steps ++ step ∷ []) start now old new
      by (m, cut, at) = record {
        first = before.first ++ m ∷ [];
        cut = before.cut ∙ ap (λ (l : List MemberData × Option ℕ). before.first ++ l.0) cut ∙ sym (append_assoc before.first (m ∷ []) others.0);
        damage = before.damage ∙ ap (λ (l : List MemberData × Option ℕ). l.1) cut;
        done = step_more before.first m steps step start between now old told new before.done at written;
      }

    -- its line can't be written
    pub ends_unwritten : (o : Option Step) (step : Step) (fault : WriteFault) → next (Ok o) → o ≡ Some step → step ≡ Unwritten fault
        → ends all.0 all.1 steps start now old new (Err (end.Unwritten fault))
    ends_unwritten o step fault came is lost = by (subst (λ (o : Option Step). next (Ok o)) (is ∙ ap Some lost) came) where
      by : next (Ok (Some (Unwritten fault))) → ends all.0 all.1 steps start now old new (Err (end.Unwritten fault))
      by (m, cut, at) = (
        before.first,
        m,
        others.0,
        before.cut ∙ ap (λ (l : List MemberData × Option ℕ). before.first ++ l.0) cut,
        between,
        told,
        before.done,
        at,
      )
