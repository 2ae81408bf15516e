-- What a piece of a section came to, once what it printed went out.
use Rattle.std.proofs.Common.{◌≡◌, ◌⊎◌, inl, inr, ℕ, true, false, List, [], ◌∷◌, ◌++◌, Option, Result, Ok, Err, arith}
use Rattle.std.proofs.Common.{sym, ap, ◌∙◌, subst, append_assoc, append-nil}
use Rattle.std.specs.Io.KnownBytes.{Appends}
use Rattle.dl_head.specs.declared.dialect.Dialect.{Dialect}
use Rattle.dl_rows.specs.Runs.{Sound}
use Rattle.dl_sections.specs.declared.fault.RunFault.{RunFault}
use Rattle.dl_sections.specs.declared.fault.RunFault.TheVariants as fault
use Rattle.dl_rows.specs.declared.sink.Flow.{Flow}
use Rattle.dl_rows.specs.declared.sink.Flow.TheVariants as flow
use Rattle.dl_sections.specs.declared.section.SectionUnits.{SectionUnits}
use Rattle.dl_sections.specs.RunOutput.{TellsOut}
use Rattle.dl_sections.specs.Section.{Visit, HasUnits, HasBegun}
use Rattle.dl_sections.proofs.UnitsLemmas.{within_unit}
use Rattle.dl_sections.specs.Visiting.{Story, HasReason, GoesOn, Settled, VisitorStops}
use Rattle.dl_sections.specs.UnitsRead.{Before, SoundUnlessWrite, UnitsFed, ReaderStops, Worked, is_failed_write, visits_since}
use Rattle.dl_sections.proofs.FeedLemmas.{sound_before}
use Rattle.dl_sections.proofs.SectionLemmas.{none_refused}

true_false : true ≡ false → ⊥
true_false e = cc

module _ {S : Type 0} (story : Story S) (dialect : Dialect) (past : Before dialect) (s : List ℕ) (first mid new : S)
    (start before after : Option (List ℕ)) (u : SectionUnits) where
  -- a write failed while what some visits print went out
  lost : (units : List (List ℕ)) (b back : List ℕ) → HasBegun dialect s units b back → (heard more : List Visit)
      → visits_since past units b ≡ heard ++ more
      → (f : RunFault) → TellsOut start after (story.text first heard) f
      → Worked story past s first new start after u (Err f)
  lost units b back has heard more is (fault.Write out) t = (units, b, back, has, (heard, more, is, t))
  lost units b back has heard more is (fault.Damage offset kind) t = absurd t
  lost units b back has heard more is fault.NoMemory t = absurd t
  lost units b back has heard more is fault.Read t = absurd t
  lost units b back has heard more is fault.SectionTooLong t = absurd t
  lost units b back has heard more is fault.NotFound t = absurd t
  lost units b back has heard more is fault.TwoSums t = absurd t
  lost units b back has heard more is fault.NoUnit t = absurd t
  lost units b back has heard more is (fault.ForeignUnit unit) t = absurd t
  lost units b back has heard more is (fault.Emit unit f) t = absurd t

  lost_all : (units : List (List ℕ)) (b back : List ℕ) → HasBegun dialect s units b back → (f : RunFault)
      → TellsOut start after (story.text first (visits_since past units b)) f
      → Worked story past s first new start after u (Err f)
  lost_all units b back has f t =
      lost units b back has (visits_since past units b) [] (sym (append-nil (visits_since past units b))) f t

  -- why a piece isn't worked through
  abbrev Cause : RunFault → Type 0
  Cause f = (units : List (List ℕ)) × (b : List ℕ) × (back : List ℕ) × HasBegun dialect s units b back
      × ((ReaderStops past u units b back f × story.tells first mid start before (visits_since past units b))
      ⊎ (SoundUnlessWrite dialect b f × (heard : List Visit) × (more : List Visit)
      × (visits_since past units b ≡ heard ++ more) × HasReason story first mid start before heard f))

  -- another fault than a failed write
  abbrev IsOther : RunFault → Type 0
  IsOther f = (b : List ℕ) → SoundUnlessWrite dialect b f → Sound dialect b

  abbrev Stop : RunFault → Type 0
  Stop f = (units : List (List ℕ)) × (b : List ℕ) × (back : List ℕ) × HasBegun dialect s units b back
      × ((ReaderStops past u units b back f
      × Settled story first start after (visits_since past units b) (story.tells first new start after))
      ⊎ (Sound dialect b × VisitorStops story first new start after (visits_since past units b) f))

  -- the visits up to the one at which there was a reason
  parted : (visits heard more before : List Visit) (visit : Visit) → visits ≡ heard ++ more
      → heard ≡ before ++ visit ∷ [] → visits ≡ before ++ visit ∷ more
  parted visits heard more before visit is was =
      is ∙ ap (λ (l : List Visit). l ++ more) was ∙ append_assoc before (visit ∷ []) more

  module _
      (settles : (n : Flow) (visits : List Visit) → GoesOn story first mid start before visits n
      → GoesOn story first new start after visits n × Appends start after (story.text first visits)) where
    settled : (visits : List Visit) → story.tells first mid start before visits
        → Settled story first start after visits (story.tells first new start after)
    settled visits tells = let p = settles flow.On visits tells in record { tells = p.0; out = p.1 }

    stopped : (f : RunFault) → IsOther f → Cause f → Stop f
    stopped f other (units, b, back, has, inl (stops, tells)) =
        (units, b, back, has, inl (stops, settled (visits_since past units b) tells))
    stopped f other (units, b, back, has, inr (sound, heard, more, is, why)) =
        let out = settled why.0 why.3 in (
          units,
          b,
          back,
          has,
          inr (
            other b sound,
            record {
              before = why.0;
              visit = why.1;
              more = more;
              whole = parted (visits_since past units b) heard more why.0 why.1 is why.2;
              tells = out.tells;
              reason = subst (λ (l : List Visit). story.refuses first l f) why.2 why.4;
              out = out.out;
            },
          ),
        )

    pub all_out : (answer : Result Flow RunFault) → is_failed_write answer ≡ false
        → UnitsFed story past s first mid start before u answer
        → Worked story past s first new start after u answer
    all_out (Ok flow.On) kept (units, b, are, none, sound, tells) =
        (units, b, are, none, sound, settled (visits_since past units b) tells)
    all_out (Ok flow.Stop) kept (units, back, has, summary, offset, done) =
        let p = settles flow.Stop (visits_since past units []) done in
        (units, back, has, summary, offset, record { tells = p.0; out = p.1 })
    all_out (Err (fault.Write out)) kept fed = absurd (true_false kept)
    all_out (Err (fault.Damage offset kind)) kept fed = stopped (fault.Damage offset kind) (λ b s. s) fed
    all_out (Err fault.NoMemory) kept fed = stopped fault.NoMemory (λ b s. s) fed
    all_out (Err fault.Read) kept fed = stopped fault.Read (λ b s. s) fed
    all_out (Err fault.SectionTooLong) kept fed = stopped fault.SectionTooLong (λ b s. s) fed
    all_out (Err fault.NotFound) kept fed = stopped fault.NotFound (λ b s. s) fed
    all_out (Err fault.TwoSums) kept fed = stopped fault.TwoSums (λ b s. s) fed
    all_out (Err fault.NoUnit) kept fed = stopped fault.NoUnit (λ b s. s) fed
    all_out (Err (fault.ForeignUnit unit)) kept fed = stopped (fault.ForeignUnit unit) (λ b s. s) fed
    all_out (Err (fault.Emit unit f)) kept fed = stopped (fault.Emit unit f) (λ b s. s) fed

  module _ (f : RunFault)
      (fails : (n : Flow) (visits : List Visit) → GoesOn story first mid start before visits n
      → TellsOut start after (story.text first visits) f) where
    lost_at : (g : RunFault) → Cause g → Worked story past s first new start after u (Err f)
    lost_at g (units, b, back, has, inl (stops, tells)) =
        lost_all units b back has f (fails flow.On (visits_since past units b) tells)
    lost_at g (units, b, back, has, inr (sound, heard, more, is, why)) =
        lost units b back has why.0 (why.1 ∷ more)
        (parted (visits_since past units b) heard more why.0 why.1 is why.2) f (fails flow.On why.0 why.3)

    pub not_out : (answer : Result Flow RunFault) → is_failed_write answer ≡ false
        → UnitsFed story past s first mid start before u answer
        → Worked story past s first new start after u (Err f)
    not_out (Ok flow.On) kept (units, b, are, none, sound, tells) =
        lost_all units b [] (record {
          has =
              subst (λ (l : List ℕ). HasUnits dialect s units l) (sym (append-nil b)) are.has;
          in_unit = within_unit past u s units b are;
          none_before = sound_before dialect b sound;
        }) f (fails flow.On (visits_since past units b) tells)
    not_out (Ok flow.Stop) kept (units, back, has, summary, offset, done) =
        lost_all units [] back (record {
          has = has;
          in_unit = λ n known. omega arith;
          none_before = sound_before dialect [] (none_refused dialect);
        }) f (fails flow.Stop (visits_since past units []) done)
    not_out (Err (fault.Write out)) kept fed = absurd (true_false kept)
    not_out (Err (fault.Damage offset kind)) kept fed = lost_at (fault.Damage offset kind) fed
    not_out (Err fault.NoMemory) kept fed = lost_at fault.NoMemory fed
    not_out (Err fault.Read) kept fed = lost_at fault.Read fed
    not_out (Err fault.SectionTooLong) kept fed = lost_at fault.SectionTooLong fed
    not_out (Err fault.NotFound) kept fed = lost_at fault.NotFound fed
    not_out (Err fault.TwoSums) kept fed = lost_at fault.TwoSums fed
    not_out (Err fault.NoUnit) kept fed = lost_at fault.NoUnit fed
    not_out (Err (fault.ForeignUnit unit)) kept fed = lost_at (fault.ForeignUnit unit) fed
    not_out (Err (fault.Emit unit g)) kept fed = lost_at (fault.Emit unit g) fed
