-- A section, read piece by piece.
use Rattle.std.proofs.Common.{◌≡◌, ◌<◌, ◌≤◌, ◌⊎◌, inl, inr, ℕ, ◌+◌, ◌-◌, List, [], ◌++◌, length, take, Option, Result}
use Rattle.std.proofs.Common.{Ok, Err, arith, refl, sym, ap, ◌∙◌, subst, append-nil, length-append, length-take}
use Rattle.std.specs.Io.KnownBytes.{Appends, Consumes, Keeps, IsAtEnd}
use Rattle.std.proofs.KnownBytes.{Consumes-kept, Consumes-trans}
use Rattle.std.proofs.lemmas.List.{take_all}
use Rattle.std.proofs.Math.Seq.{take-append-add}
use Rattle.dl_head.specs.declared.dialect.Dialect.{Dialect}
use Rattle.dl_rows.specs.Runs.{Sound}
use Rattle.dl_sections.specs.declared.fault.RunFault.{RunFault}
use Rattle.dl_sections.specs.declared.fault.RunFault.TheVariants as fault
use Rattle.dl_rows.specs.declared.sink.Flow.{Flow}
use Rattle.dl_rows.specs.declared.sink.Flow.TheVariants as flow
use Rattle.dl_sections.specs.declared.section.SectionUnits.{SectionUnits}
use Rattle.dl_print.specs.declared.summary.Summary.{Summary}
use Rattle.dl_sections.specs.Section.{HasUnits, HasBegun, NoUnitBegins, EndsAs, section_visits}
use Rattle.dl_sections.specs.Visiting.{Story, VisitorStops, Settled, Ran}
use Rattle.dl_sections.specs.UnitsRead.{UnitsAre, ReaderStops, Worked, Finishes}
use Rattle.dl_sections.proofs.SectionLemmas.{nothing_before}

-- the visitor was told of t
pub record ToldOf {S : Type 0} (story : Story S) (dialect : Dialect) (t : List ℕ) (first new : S)
    (start now : Option (List ℕ)) (u : SectionUnits) : Type 0 where
  pub units : List (List ℕ)
  pub b : List ℕ
  pub are : UnitsAre (nothing_before dialect) u t units b
  pub none : NoUnitBegins dialect b
  pub sound : Sound dialect b
  pub settled : Settled story first start now (section_visits dialect units b) (story.tells first new start now)

-- at most `limit` bytes were read, and `left` more may come
pub record ReadSo {S : Type 0} (story : Story S) (dialect : Dialect) (limit : ℕ) (old input : Option (List ℕ))
    (first new : S) (start now : Option (List ℕ)) (u : SectionUnits) (left : ℕ) : Type 0 where
  pub t : List ℕ
  pub read : Consumes old input t
  pub within : length t + left ≡ limit
  pub told : story.tells first first start start [] → Appends start start (story.text first [])
      → ToldOf story dialect t first new start now u

module _ {S : Type 0} (story : Story S) (dialect : Dialect) (limit : ℕ) (old input : Option (List ℕ)) (first new : S)
    (start now : Option (List ℕ)) (u : SectionUnits) (left : ℕ)
    (so : ReadSo story dialect limit old input first new start now u left) where
  -- what `read_units` owes
  abbrev pub Owed : (input2 : Option (List ℕ)) (new2 : S) (now2 : Option (List ℕ)) → Result Summary RunFault → Type 0
  Owed input2 new2 now2 result =
      (bs : List ℕ) × Consumes old input2 bs × (story.tells first first start start []
      → Appends start start (story.text first []) → Ran story dialect limit bs input2 first new2 start now2 result)

  pub failed_read : (input2 : Option (List ℕ)) → Keeps input input2 → Owed input2 new now (Err fault.Read)
  failed_read input2 kept = (
    so.t,
    Consumes-kept old input input2 so.t so.read kept,
    λ tells out.
        let told = so.told tells out in (
          told.units,
          told.b,
          [],
          inl (
            (told.are.has, refl, told.none, told.sound, omega (arith, so.within)),
            told.settled,
          ),
        ),
  )

  module _ (input2 : Option (List ℕ)) (piece : List ℕ) (more : Consumes input input2 piece) where
    all_read : Consumes old input2 (so.t ++ piece)
    all_read = Consumes-trans old input input2 so.t piece so.read more

    nothing_read : piece ≡ [] → Consumes old input2 so.t
    nothing_read none =
        subst (λ (l : List ℕ). Consumes old input2 l) (append-nil so.t)
        (subst (λ (p : List ℕ). Consumes old input2 (so.t ++ p)) none all_read)

    whole_within : take limit so.t ≡ so.t
    whole_within = take_all limit so.t (omega (arith, so.within))

    ended : IsAtEnd input2 → ToldOf story dialect so.t first new start now u → (result : Result Summary RunFault)
        → ((units : List (List ℕ)) (b : List ℕ) → UnitsAre (nothing_before dialect) u so.t units b → NoUnitBegins dialect b
        → Sound dialect b → Finishes (nothing_before dialect) so.t units b result)
        → Ran story dialect limit so.t input2 first new start now result
    ended at_end told (Ok summary) finish =
        let f = finish told.units told.b told.are told.none told.sound in
        inl (
          told.units,
          (
            subst (λ (l : List ℕ). HasUnits dialect so.t told.units l) f.0 told.are.has,
            refl,
            refl,
            omega (arith, so.within),
            at_end,
            f.1,
          ),
          subst (λ (l : List ℕ). Settled story first start now (section_visits dialect told.units l)
              (story.tells first new start now)) f.0 told.settled,
        )
    ended at_end told (Err f) finish =
        let over = finish told.units told.b told.are told.none told.sound in
        subst (λ (g : RunFault). Ran story dialect limit so.t input2 first new start now (Err g)) (sym over.1) (
          told.units,
          told.b,
          [],
          inl (
            (
              subst (λ (l : List ℕ). HasUnits dialect l told.units (told.b ++ [])) (sym whole_within)
                  (subst (λ (l : List ℕ). HasUnits dialect so.t told.units l) (sym (append-nil told.b)) told.are.has),
              subst (λ (l : List ℕ). NoUnitBegins dialect l) (sym (append-nil told.b)) told.none,
              inr (refl, over.0, told.sound, omega (arith, so.within), at_end, refl, refl),
            ),
            told.settled,
          ),
        )

    pub at_end : piece ≡ [] → IsAtEnd input2 → (result : Result Summary RunFault)
        → ((units : List (List ℕ)) (b : List ℕ) → UnitsAre (nothing_before dialect) u so.t units b → NoUnitBegins dialect b
        → Sound dialect b → Finishes (nothing_before dialect) so.t units b result)
        → Owed input2 new now result
    at_end none over result finish =
        (so.t, nothing_read none, λ tells out. ended over (so.told tells out) result finish)

    -- the bytes of a piece within the limit
    cut_is : take limit (so.t ++ piece) ≡ so.t ++ take left piece
    cut_is = ap (λ (n : ℕ). take n (so.t ++ piece)) (sym so.within) ∙ take-append-add so.t piece left

    module _ (new2 : S) (now2 : Option (List ℕ)) (u2 : SectionUnits) where
      has_cut : (units : List (List ℕ)) (rest : List ℕ) → HasUnits dialect (so.t ++ take left piece) units rest
          → HasUnits dialect (take limit (so.t ++ piece)) units rest
      has_cut units rest has = subst (λ (l : List ℕ). HasUnits dialect l units rest) (sym cut_is) has

      begun_cut : (units : List (List ℕ)) (b back : List ℕ) → HasBegun dialect (so.t ++ take left piece) units b back
          → HasBegun dialect (take limit (so.t ++ piece)) units b back
      begun_cut units b back has = subst (λ (l : List ℕ). HasBegun dialect l units b back) (sym cut_is) has

      abbrev Stop : RunFault → Type 0
      Stop f =
          (units : List (List ℕ)) × (b : List ℕ) × (back : List ℕ)
          × HasBegun dialect (so.t ++ take left piece) units b back
          × ((ReaderStops (nothing_before dialect) u2 units b back f
          × Settled story first start now2 (section_visits dialect units b) (story.tells first new2 start now2))
          ⊎ (Sound dialect b × VisitorStops story first new2 start now2 (section_visits dialect units b) f))

      abbrev Stopping : RunFault → Type 0
      Stopping f = (units : List (List ℕ)) × (b : List ℕ) × (back : List ℕ)
          × ((EndsAs dialect limit (so.t ++ piece) input2 units b back (Err f)
          × Settled story first start now2 (section_visits dialect units b) (story.tells first new2 start now2))
          ⊎ (HasBegun dialect (take limit (so.t ++ piece)) units b back × Sound dialect b
          × VisitorStops story first new2 start now2 (section_visits dialect units b) f))

      stopping : (f : RunFault)
          → ((units : List (List ℕ)) (b back : List ℕ) → HasBegun dialect (take limit (so.t ++ piece)) units b back
          → ReaderStops (nothing_before dialect) u2 units b back f
          → EndsAs dialect limit (so.t ++ piece) input2 units b back (Err f)) → Stop f → Stopping f
      stopping f ends (units, b, back, has, inl (stops, settled)) =
          (units, b, back, inl (ends units b back (begun_cut units b back has) stops, settled))
      stopping f ends (units, b, back, has, inr (sound, stops)) =
          (units, b, back, inr (begun_cut units b back has, sound, stops))

      stopped : (f : RunFault) → Worked story (nothing_before dialect) (so.t ++ take left piece) first new2 start now2 u2 (Err f)
          → Ran story dialect limit (so.t ++ piece) input2 first new2 start now2 (Err f)
      stopped (fault.Write out) (units, b, back, has, writes) = (units, b, back, begun_cut units b back has, writes)
      stopped (fault.Damage offset kind) w =
          stopping (fault.Damage offset kind) (λ units b back has stops. (
            has.has,
            stops.3,
            inl (stops.0, stops.1, stops.2),
          )) w
      stopped fault.NoMemory w = stopping fault.NoMemory (λ units b back has stops. (has, stops.0, stops.1)) w
      stopped fault.Read w = stopping fault.Read (λ units b back has stops. absurd stops) w
      stopped fault.SectionTooLong w = stopping fault.SectionTooLong (λ units b back has stops. absurd stops) w
      stopped fault.NotFound w = stopping fault.NotFound (λ units b back has stops. absurd stops) w
      stopped fault.TwoSums w = stopping fault.TwoSums (λ units b back has stops. absurd stops) w
      stopped fault.NoUnit w = stopping fault.NoUnit (λ units b back has stops. absurd stops) w
      stopped (fault.ForeignUnit unit) w = stopping (fault.ForeignUnit unit) (λ units b back has stops. absurd stops) w
      stopped (fault.Emit unit f) w = stopping (fault.Emit unit f) (λ units b back has stops. absurd stops) w

      -- what the piece came to, where the visitor was told of all that came before
      abbrev pub Works : List ℕ → Result Flow RunFault → Type 0
      Works known answer =
          ToldOf story dialect so.t first new start now u
          → Worked story (nothing_before dialect) (so.t ++ known) first new2 start now2 u2 answer

      works_cut : (known : List ℕ) (answer : Result Flow RunFault) → known ≡ take left piece → Works known answer
          → Works (take left piece) answer
      works_cut known answer is w = subst (λ (l : List ℕ). Works l answer) is w

      pub stops : (f : RunFault) (known : List ℕ) → known ≡ take left piece → Works known (Err f)
          → Owed input2 new2 now2 (Err f)
      stops f known is w =
          (so.t ++ piece, all_read, λ tells out. stopped f (works_cut known (Err f) is w (so.told tells out)))

      pub wants_no_more : (n : Flow) (known : List ℕ) → n ≡ flow.Stop → known ≡ take left piece → Works known (Ok n)
          → Owed input2 new2 now2 (Ok u2.summary)
      wants_no_more n known nothing is w = (
        so.t ++ piece,
        all_read,
        λ tells out.
            let done = subst (λ (m : Flow). Worked story (nothing_before dialect) (so.t ++ take left piece) first new2 start now2 u2
            (Ok m))
            nothing (works_cut known (Ok n) is w (so.told tells out)) in
            inr (done.0, done.1, has_cut done.0 done.1 done.2, done.3, done.5),
      )

      pub too_long : (n : Flow) (known : List ℕ) → n ≡ flow.On → known ≡ take left piece → Works known (Ok n)
          → length known < length piece → Owed input2 new2 now2 (Err fault.SectionTooLong)
      too_long n known unit is w more_left = (
        so.t ++ piece,
        all_read,
        λ tells out.
            let r = subst (λ (m : Flow). Worked story (nothing_before dialect) (so.t ++ take left piece) first new2 start now2 u2 (Ok m))
            unit (works_cut known (Ok n) is w (so.told tells out)) in (
              r.0,
              r.1,
              [],
              inl (
                (
                  has_cut r.0 r.1 r.2.has,
                  refl,
                  r.3,
                  r.4,
                  omega (arith, more_left, so.within, ap length is, length-take left piece, length-append so.t piece),
                ),
                r.5,
              ),
            ),
      )

      pub reads_on : (n : Flow) (known : List ℕ) → n ≡ flow.On → known ≡ take left piece → Works known (Ok n)
          → length piece ≤ left → ReadSo story dialect limit old input2 first new2 start now2 u2 (left - length piece)
      reads_on n known unit is w fits = record {
        t = so.t ++ piece;
        read = all_read;
        within = omega (arith, fits, so.within, length-append so.t piece);
        told = λ tells out.
            let r = subst (λ (m : Flow). Worked story (nothing_before dialect) (so.t ++ take left piece) first new2 start now2 u2 (Ok m))
            unit (works_cut known (Ok n) is w (so.told tells out)) in
            record {
              units = r.0;
              b = r.1;
              are = subst (λ (l : List ℕ). UnitsAre (nothing_before dialect) u2 (so.t ++ l) r.0 r.1) (take_all left piece fits) r.2;
              none = r.3;
              sound = r.4;
              settled = r.5;
            };
      }
