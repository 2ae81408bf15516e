-- A section around damaged units: what a piece comes to.
use Rattle.std.proofs.Common.{◌≡◌, ◌<◌, ◌≤◌, ◌⊎◌, inl, inr, ℕ, ◌+◌, ◌-◌, List, [], ◌++◌, length, take, Option, Result}
use Rattle.std.proofs.Common.{Ok, Err, arith, refl, sym, ap, ◌∙◌, append-nil, length-append, length-take}
use Rattle.std.specs.Io.KnownBytes.{Appends, Consumes, Keeps}
use Rattle.std.proofs.KnownBytes.{Consumes-kept, Consumes-trans}
use Rattle.std.proofs.lemmas.List.{take_all}
use Rattle.std.proofs.Math.Seq.{take-append-add}
use Rattle.dl_head.specs.declared.dialect.Dialect.{Dialect}
use Rattle.dl_rows.specs.declared.sink.Flow.{Flow}
use Rattle.dl_rows.specs.declared.sink.Flow.TheVariants as flow
use Rattle.dl_sections.specs.declared.around.Survey.{Survey}
use Rattle.dl_sections.specs.declared.around.UnitsAround.{UnitsAround}
use Rattle.dl_sections.specs.declared.fault.RunFault.{RunFault}
use Rattle.dl_sections.specs.declared.fault.RunFault.TheVariants as fault
use Rattle.dl_sections.specs.Around.{Block, Rest, begun, cut_off, broken, IsCutTo, EndsAround, IsLast, IsOpen, RanAround}
use Rattle.dl_sections.specs.Around.{IsSoundSoFar, visits_around}
use Rattle.dl_sections.specs.GoingOn.{AroundFed, AroundIs, Awaits, BeginsAround, HasNoLength, WantsCell, surveyed}
use Rattle.dl_sections.specs.Visiting.{Settled, Story, VisitorStops}
use Rattle.dl_sections.proofs.SectionLemmas.{none_begins, none_refused}

-- before anything is read
pub begins : {S : Type 0} (story : Story S) (dialect : Dialect) (first : S) (start : Option (List ℕ)) (a : UnitsAround)
    → BeginsAround dialect a → story.tells first first start start [] → Appends start start (story.text first [])
    → AroundIs story dialect [] first first start start a
begins story dialect first start a is tells out = record {
  blocks = [];
  rest = begun [];
  cut = record { whole = refl; each = tt; rest_is = (none_refused dialect, none_begins dialect) };
  awaits = is.units;
  read = is.read;
  damaged = is.damaged;
  settled = record { tells = tells; out = out };
}

-- more may follow
stays_open : (dialect : Dialect) (a : UnitsAround) (blocks : List Block) (rest : Rest) → Awaits dialect a.units blocks rest
    → IsOpen dialect rest
stays_open dialect a blocks (begun b) awaits = tt
stays_open dialect a blocks (cut_off b) awaits = awaits
stays_open dialect a blocks (broken front back at kind) awaits = (awaits.0, awaits.1)

-- it is memory that is wanted for a cell, and nothing else
pub no_cell_other : (dialect : Dialect) (f : RunFault) → ((e : f ≡ fault.NoMemory) → ⊥) → (rest : Rest) (others : List ℕ)
    → WantsCell dialect rest others f → ⊥
no_cell_other dialect f other rest others wants = by f rest other wants where
  by : (f : RunFault) (rest : Rest) → ((e : f ≡ fault.NoMemory) → ⊥) → WantsCell dialect rest others f → ⊥
  by fault.NoMemory rest other wants = other refl
  by f (begun b) other wants = wants
  by f (cut_off b) other wants = wants
  by f (broken front back at kind) other wants = wants

-- at most `limit` bytes were read, and `left` more may come
pub record ReadAround {S : Type 0} (story : Story S) (dialect : Dialect) (limit : ℕ) (old input : Option (List ℕ))
    (first new : S) (start now : Option (List ℕ)) (a : UnitsAround) (left : ℕ) : Type 0 where
  pub t : List ℕ
  pub read : Consumes old input t
  pub within : length t + left ≡ limit
  pub counted : a.read ≤ length t
  pub told : story.tells first first start start [] → Appends start start (story.text first [])
      → AroundIs story dialect t first new start now a

module _ {S : Type 0} {story : Story S} {dialect : Dialect} {limit : ℕ} {old input : Option (List ℕ)} {first new : S}
    {start now : Option (List ℕ)} {a : UnitsAround} {left : ℕ}
    (so : ReadAround story dialect limit old input first new start now a left) where
  -- what is owed
  abbrev pub Owed : (input2 : Option (List ℕ)) (new2 : S) (now2 : Option (List ℕ)) → Result Survey RunFault → Type 0
  Owed input2 new2 now2 result =
      (bs : List ℕ) × Consumes old input2 bs × (story.tells first first start start []
      → Appends start start (story.text first []) → RanAround story dialect limit bs input2 first new2 start now2 result)

  pub failed_read : (input2 : Option (List ℕ)) → Keeps input input2 → Owed input2 new now (Err fault.Read)
  failed_read input2 kept = (
    so.t,
    Consumes-kept old input input2 so.t so.read kept,
    λ tells out.
        let is = so.told tells out in (
          is.blocks,
          is.rest,
          inl ((is.cut, stays_open dialect a is.blocks is.rest is.awaits, omega (arith, so.within)), is.settled),
        ),
  )

  module _ (input2 : Option (List ℕ)) (piece : List ℕ) (more : Consumes input input2 piece) where
    all_read : Consumes old input2 (so.t ++ piece)
    all_read = Consumes-trans old input input2 so.t piece so.read more

    -- the bytes are over
    pub at_end : (none : piece ≡ []) {new2 : S} (survey : Survey)
        → (AroundIs story dialect so.t first new start now a
        → RanAround story dialect limit so.t input2 first new2 start now (Ok survey)) → Owed input2 new2 now (Ok survey)
    at_end none survey ends =
        (so.t, rw (none, append-nil) at all_read, λ tells out. ends (so.told tells out))

    cut_is : take limit (so.t ++ piece) ≡ so.t ++ take left piece
    cut_is = ap (λ (n : ℕ). take n (so.t ++ piece)) (sym so.within) ∙ take-append-add so.t piece left

    module _ (new2 : S) (now2 : Option (List ℕ)) (x : UnitsAround) (known : List ℕ) (known_is : known ≡ take left piece)
      where
        abbrev pub Fed : Result Flow RunFault → Type 0
        Fed answer =
            AroundIs story dialect so.t first new start now a
            → AroundFed story dialect (so.t ++ known) first new2 start now2 x answer

        known_cut : so.t ++ known ≡ take limit (so.t ++ piece)
        known_cut = ap (λ (l : List ℕ). so.t ++ l) known_is ∙ sym cut_is

        abbrev Ran : Result Survey RunFault → Type 0
        Ran result = RanAround story dialect limit (so.t ++ piece) input2 first new2 start now2 result

        cut_to : {blocks : List Block} {rest : Rest} {others : List ℕ} → IsCutTo dialect (so.t ++ known) blocks rest others
            → IsCutTo dialect (take limit (so.t ++ piece)) blocks rest others
        cut_to cut = rw known_cut at cut

        -- memory was refused, or the visitor had a reason
        abbrev Stops : RunFault → Type 0
        Stops f = (blocks : List Block) × (rest : Rest) × (others : List ℕ) × IsCutTo dialect (so.t ++ known) blocks rest others
            × IsSoundSoFar dialect rest
            × ((WantsCell dialect rest others f
            × Settled story first start now2 (visits_around dialect blocks rest) (story.tells first new2 start now2))
            ⊎ VisitorStops story first new2 start now2 (visits_around dialect blocks rest) f)

        had_reason : (f : RunFault) → ((rest : Rest) (others : List ℕ) → WantsCell dialect rest others f → ⊥) → Stops f
            → (blocks : List Block) × (rest : Rest)
            × ((EndsAround dialect limit (so.t ++ piece) input2 blocks rest (Err f)
            × Settled story first start now2 (visits_around dialect blocks rest) (story.tells first new2 start now2))
            ⊎ ((others : List ℕ) × IsCutTo dialect (take limit (so.t ++ piece)) blocks rest others × IsSoundSoFar dialect rest
            × VisitorStops story first new2 start now2 (visits_around dialect blocks rest) f))
        had_reason f none (blocks, rest, others, cut, sound, inl (wants, settled)) = absurd (none rest others wants)
        had_reason f none (blocks, rest, others, cut, sound, inr v) =
            (blocks, rest, inr (others, cut_to cut, sound, v))

        wanting : Stops fault.NoMemory → Ran (Err fault.NoMemory)
        wanting (blocks, begun b, others, cut, sound, inl (wants, settled)) =
            (blocks, begun b, inl ((b, others, refl, cut_to cut, sound, wants), settled))
        wanting (blocks, cut_off b, others, cut, sound, inl (wants, settled)) = absurd wants
        wanting (blocks, broken front back at kind, others, cut, sound, inl (wants, settled)) = absurd wants
        wanting (blocks, rest, others, cut, sound, inr v) = (blocks, rest, inr (others, cut_to cut, sound, v))

        stopped : (f : RunFault) → AroundFed story dialect (so.t ++ known) first new2 start now2 x (Err f) → Ran (Err f)
        stopped (fault.Write out) (blocks, rest, others, cut, writes) = (blocks, rest, others, cut_to cut, writes)
        stopped fault.NoMemory w = wanting w
        stopped (fault.Damage offset kind) w =
            had_reason (fault.Damage offset kind) (no_cell_other dialect (fault.Damage offset kind) (λ e. absurd cc)) w
        stopped fault.Read w = had_reason fault.Read (no_cell_other dialect fault.Read (λ e. absurd cc)) w
        stopped fault.SectionTooLong w =
            had_reason fault.SectionTooLong (no_cell_other dialect fault.SectionTooLong (λ e. absurd cc)) w
        stopped fault.NotFound w = had_reason fault.NotFound (no_cell_other dialect fault.NotFound (λ e. absurd cc)) w
        stopped fault.TwoSums w = had_reason fault.TwoSums (no_cell_other dialect fault.TwoSums (λ e. absurd cc)) w
        stopped fault.NoUnit w = had_reason fault.NoUnit (no_cell_other dialect fault.NoUnit (λ e. absurd cc)) w
        stopped (fault.ForeignUnit unit) w =
            had_reason (fault.ForeignUnit unit) (no_cell_other dialect (fault.ForeignUnit unit) (λ e. absurd cc)) w
        stopped (fault.Emit unit f) w =
            had_reason (fault.Emit unit f) (no_cell_other dialect (fault.Emit unit f) (λ e. absurd cc)) w

        pub stops : (f : RunFault) → Fed (Err f) → Owed input2 new2 now2 (Err f)
        stops f fed = (so.t ++ piece, all_read, λ tells out. stopped f (fed (so.told tells out)))

        -- no unit is known to follow, or the visitor wants none
        wants_none : AroundFed story dialect (so.t ++ known) first new2 start now2 x (Ok flow.Stop) → Ran (Ok (surveyed x))
        wants_none (blocks, rest, survey, inl (cut, none, settled)) =
            inl (blocks, rest, (rw known_cut at cut, last rest none, survey), settled)
          where
            last : (rest : Rest) → HasNoLength dialect rest → IsLast dialect limit (so.t ++ piece) input2 rest
            last (begun b) none = absurd none
            last (cut_off b) none = absurd none
            last (broken front back at kind) none = inl none
        wants_none (blocks, rest, survey, inr (others, none, cut, settled)) =
            inr (blocks, others, rw none at (cut_to cut), rw none at survey, rw none at settled)

        pub no_more : {n : Flow} → n ≡ flow.Stop → Fed (Ok n) → {survey : Survey} → survey ≡ surveyed x
            → Owed input2 new2 now2 (Ok survey)
        no_more stop fed survey_is =
            (so.t ++ piece, all_read, λ tells out. rw survey_is (wants_none (rw stop at (fed (so.told tells out)))))

        pub too_long : {n : Flow} → n ≡ flow.On → Fed (Ok n) → length known < length piece
            → Owed input2 new2 now2 (Err fault.SectionTooLong)
        too_long on fed less = (
          so.t ++ piece,
          all_read,
          λ tells out.
              let is = rw on at (fed (so.told tells out)) in (
                is.blocks,
                is.rest,
                inl (
                  (
                    rw known_cut at is.cut,
                    stays_open dialect x is.blocks is.rest is.awaits,
                    omega (arith, less, so.within, ap length known_is, length-take left piece, length-append so.t piece),
                  ),
                  is.settled,
                ),
              ),
        )

        pub reads_on : {n : Flow} → n ≡ flow.On → Fed (Ok n) → length piece ≤ left → x.read ≤ a.read + length known
            → ReadAround story dialect limit old input2 first new2 start now2 x (left - length piece)
        reads_on on fed fits read =
            let all : known ≡ piece = known_is ∙ take_all left piece fits in record {
              t = so.t ++ piece;
              read = all_read;
              within = omega (arith, fits, so.within, length-append so.t piece);
              counted = omega (arith, read, so.counted, ap length all, length-append so.t piece);
              told = λ tells out. rw (on, all) at (fed (so.told tells out));
            }
