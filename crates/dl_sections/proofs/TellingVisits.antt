-- A sink of units that is told what a visitor hears, and what is read of a section in memory by it.
use Rattle.std.proofs.Common.{◌≡◌, ◌⊎◌, inl, inr, ℕ, List, [], ◌∷◌, ◌++◌, length, take, Option, Some, None, Result, Ok}
use Rattle.std.proofs.Common.{Err}
use Rattle.std.proofs.Common.{arith, refl, sym, ap, ap₂, ◌∙◌, subst, append-nil, length-append}
use Rattle.std.specs.Io.KnownBytes.{Appends}
use Rattle.std.proofs.KnownBytes.{Appends-nil}
use Rattle.std.proofs.lemmas.List.{take_all}
use Rattle.std.specs.List.{AllByRecursion, concat}
use Rattle.dl_field.specs.HeaderData.{HeaderData}
use Rattle.dl_head.specs.declared.dialect.Dialect.{Dialect}
use Rattle.dl_table.specs.declared.fault.FaultKind.{FaultKind}
use Rattle.dl_table.specs.declared.fault.FaultKind.TheVariants.{Truncated}
use Rattle.dl_rows.specs.declared.sink.Flow.{Flow}
use Rattle.dl_rows.specs.declared.sink.Flow.TheVariants as flow
use Rattle.dl_rows.specs.LineUnit.{IsUnit, unit_rows}
use Rattle.dl_rows.specs.Runs.{Sound}
use Rattle.dl_print.specs.declared.summary.Summary.{Summary}
use Rattle.dl_sections.specs.declared.fault.RunFault.{RunFault}
use Rattle.dl_sections.specs.declared.fault.RunFault.TheVariants as fault
use Rattle.dl_sections.specs.declared.in_memory.SectionRead.{SectionRead}
use Rattle.dl_sections.specs.declared.in_memory.SectionStop.{SectionStop}
use Rattle.dl_sections.specs.declared.in_memory.Telling.{Telling}
use Rattle.dl_sections.specs.declared.section.SectionUnits.{SectionUnits}
use Rattle.dl_sections.specs.InMemory.{Hears, ReadsSection, UnitStory, as_fault, read_of, units_told}
use Rattle.dl_sections.specs.Section.{EndsAs, HasBegun, HasUnits, NoUnitBegins, Visit, of_end, section_visits, summary_of}
use Rattle.dl_sections.specs.Telling.{Heard, PassedOn, PassesOn, Tells, heard_after, nothing_heard, telling_story, with_visit}
use Rattle.dl_sections.specs.UnitsRead.{Finishes, UnitsAre, Worked}
use Rattle.dl_sections.proofs.SectionLemmas.{nothing_before}
use Rattle.dl_sections.specs.Visiting.{GoesOn, Settled, VisitorStops}
use Rattle.dl_sections.proofs.TellingLemmas.{heard_after-append, section_heard}

module _ {U : Type 0} {story : UnitStory U} {first old : Telling U} {start held : Option (List ℕ)} {visits : List Visit}
    (s : Tells story first old start held visits) where
  abbrev heard : Heard
  heard = heard_after (nothing_heard first) visits

  heard_with : (visit : Visit) → heard_after (nothing_heard first) (visits ++ visit ∷ []) ≡ with_visit heard visit
  heard_with visit = heard_after-append (nothing_heard first) visits (visit ∷ [])

  -- one visit more
  pub told_on : (visit : Visit) (new : Telling U) (after : Option (List ℕ))
      → PassedOn first new start after (with_visit heard visit)
      → story.hears first.sink.now new.sink.now (with_visit heard visit).units (with_visit heard visit).rows
      → Tells story first new start after (visits ++ visit ∷ [])
  told_on visit new after passed hears =
      let is = heard_with visit in record { passed = rw is passed; hears = rw is hears }

  -- a unit is whole
  pub ended : (h : Option HeaderData) (new : Telling U) (after : Option (List ℕ)) (n : Flow)
      → PassedOn first new start after (with_visit heard (of_end h))
      → Hears story first.sink.now new.sink.now (with_visit heard (of_end h)).units n
      → GoesOn (telling_story story) first new start after (visits ++ of_end h ∷ []) n
  ended h new after flow.On passed hears = told_on (of_end h) new after passed hears
  ended h new after flow.Stop passed hears =
      let is = heard_with (of_end h) in record { passed = rw is passed; done = rw is hears }

-- it has printed nothing
pub settles : {U : Type 0} (story : UnitStory U) (first now : Telling U) (start held : Option (List ℕ))
    (visits : List Visit) (n : Flow) → GoesOn (telling_story story) first now start held visits n
    → GoesOn (telling_story story) first now start held visits n × Appends start held []
settles story first now start held visits flow.On s = (s, s.passed.nothing)
settles story first now start held visits flow.Stop s = (s, s.passed.nothing)

-- ---- a section

module _ {U : Type 0} (story : UnitStory U) (dialect : Dialect) (s : List ℕ) (first now : Telling U)
    (start held : Option (List ℕ)) (u : SectionUnits) where
  abbrev Reads : Result SectionRead SectionStop → Type 0
  Reads result = PassesOn story dialect s first now result

  told : (units : List (List ℕ)) (b : List ℕ) → AllByRecursion (IsUnit dialect) units
      → Tells story first now start held (section_visits dialect units b)
      → story.hears first.sink.now now.sink.now (units_told dialect 0 units) (unit_rows dialect b)
  told units b all t =
      let is = section_heard dialect (nothing_heard first) units b refl refl all in rw (sym is.0, sym is.1) t.hears

  read_is : (summary : Summary) (end : ℕ) (units : List (List ℕ)) → summary ≡ summary_of dialect units
      → end ≡ length (concat units) → record { summary = summary; end = end } ≡ read_of dialect units
  read_is summary end units is end_is = ap₂ (λ (a : Summary) (n : ℕ). record { summary = a; end = n }) is end_is

  -- what the end of the bytes comes to
  abbrev Ends : Result Summary RunFault → Type 0
  Ends result =
      (units : List (List ℕ)) (b : List ℕ) → UnitsAre (nothing_before dialect) u s units b → NoUnitBegins dialect b → Sound dialect b
      → Finishes (nothing_before dialect) s units b result

  -- what the bytes came to, by the answer that is known
  pub by_flow : {n m : Flow} → n ≡ m → Worked (telling_story story) (nothing_before dialect) s first now start held u (Ok n)
      → Worked (telling_story story) (nothing_before dialect) s first now start held u (Ok m)
  by_flow is w = subst (λ (f : Flow). Worked (telling_story story) (nothing_before dialect) s first now start held u (Ok f)) is w

  -- the bytes end with a unit
  pub read_all : Worked (telling_story story) (nothing_before dialect) s first now start held u (Ok flow.On) → (summary : Summary)
      → Ends (Ok summary) → Reads (Ok (record { summary = summary; end = length s }))
  read_all (units, b, are, none, sound, settled) summary ends =
      let over = ends units b are none sound in
      let empty = over.0 in record {
        sink = settled.tells.passed.sink;
        reads = (
          units,
          [],
          subst (λ (l : List ℕ). HasUnits dialect s units l) empty are.has,
          read_is summary (length s) units over.1
              (omega (arith, ap length are.has.whole, ap length empty, length-append (concat units) b)),
          inl (
            refl,
            subst (λ (l : List ℕ). story.hears first.sink.now now.sink.now (units_told dialect 0 units)
                (unit_rows dialect l)) empty (told units b are.has.each settled.tells),
          ),
        );
      }

  all_taken : take (length s) s ≡ s
  all_taken = take_all (length s) s (omega arith)

  -- they end within one
  pub cut_off : Worked (telling_story story) (nothing_before dialect) s first now start held u (Ok flow.On) → (f : RunFault)
      → Ends (Err f) → (stop : SectionStop)
      → ((offset : ℕ) (kind : FaultKind) → f ≡ fault.Damage offset kind → as_fault stop ≡ f) → Reads (Err stop)
  cut_off (units, b, are, none, sound, settled) f ends stop is =
      let over = ends units b are none sound in record {
        sink = settled.tells.passed.sink;
        reads = (
          units,
          b,
          [],
          subst (λ (g : RunFault). EndsAs dialect (length s) s (Some []) units b [] (Err g))
              (sym (is (length s) Truncated over.1 ∙ over.1)) (
                rw (all_taken, append-nil b) are.has,
                rw (append-nil b) none,
                inr (refl, over.0, sound, omega arith, refl, refl, refl),
              ),
          told units b are.has.each settled.tells,
        );
      }

  -- the sink wants nothing more
  pub no_more : Worked (telling_story story) (nothing_before dialect) s first now start held u (Ok flow.Stop)
      → Reads (Ok (record { summary = u.summary; end = u.offset }))
  no_more (units, back, has, summary, offset, settled) =
      let is = section_heard dialect (nothing_heard first) units [] refl refl has.each in record {
        sink = settled.tells.passed.sink;
        reads = (units, back, has, read_is u.summary u.offset units summary offset, inr (rw (sym is.0) settled.tells.done));
      }

  -- neither the reader of the section nor the sink stops so
  neither : (f : RunFault)
      → ((units : List (List ℕ)) × (b : List ℕ) × (back : List ℕ) × HasBegun dialect s units b back
      × ((⊥ × Settled (telling_story story) first start held (section_visits dialect units b)
      (Tells story first now start held))
      ⊎ (Sound dialect b × VisitorStops (telling_story story) first now start held (section_visits dialect units b) f)))
      → ⊥
  neither f (units, b, back, has, inl (stops, settled)) = stops
  neither f (units, b, back, has, inr (sound, v)) = v.reason

  pub stopped : (f : RunFault) (stop : SectionStop)
      → ((offset : ℕ) (kind : FaultKind) → f ≡ fault.Damage offset kind → as_fault stop ≡ f)
      → (f ≡ fault.NoMemory → as_fault stop ≡ f)
      → Worked (telling_story story) (nothing_before dialect) s first now start held u (Err f) → Reads (Err stop)
  stopped (fault.Write out) stop damage want (units, b, back, has, (heard, more, whole, tells)) =
      absurd (let lt = tells.0 in omega (arith, lt))
  stopped (fault.Damage offset kind) stop damage want (units, b, back, has, inl (stops, settled)) = record {
    sink = settled.tells.passed.sink;
    reads = (
      units,
      b,
      back,
      subst (λ (g : RunFault). EndsAs dialect (length s) s (Some []) units b back (Err g))
          (sym (damage offset kind refl)) (rw all_taken has.has, stops.3, inl (stops.0, stops.1, stops.2)),
      told units b has.has.each settled.tells,
    );
  }
  stopped fault.NoMemory stop damage want (units, b, back, has, inl (stops, settled)) = record {
    sink = settled.tells.passed.sink;
    reads = (
      units,
      b,
      back,
      subst (λ (g : RunFault). EndsAs dialect (length s) s (Some []) units b back (Err g)) (sym (want refl))
          (rw all_taken has, stops.0, stops.1),
      told units b has.has.each settled.tells,
    );
  }
  stopped (fault.Damage offset kind) stop damage want (units, b, back, has, inr (sound, v)) = absurd v.reason
  stopped fault.NoMemory stop damage want (units, b, back, has, inr (sound, v)) = absurd v.reason
  stopped fault.Read stop damage want w = absurd (neither fault.Read w)
  stopped fault.SectionTooLong stop damage want w = absurd (neither fault.SectionTooLong w)
  stopped fault.NotFound stop damage want w = absurd (neither fault.NotFound w)
  stopped fault.TwoSums stop damage want w = absurd (neither fault.TwoSums w)
  stopped fault.NoUnit stop damage want w = absurd (neither fault.NoUnit w)
  stopped (fault.ForeignUnit unit) stop damage want w = absurd (neither (fault.ForeignUnit unit) w)
  stopped (fault.Emit unit f) stop damage want w = absurd (neither (fault.Emit unit f) w)

-- ---- before anything is read

pub begins : {U : Type 0} (story : UnitStory U) (first : Telling U) → story.hears first.sink.now first.sink.now [] []
    → Tells story first first None None []
begins story first hears = record {
  passed = record { sink = refl; offset = refl; version = refl; nothing = Appends-nil None };
  hears = hears;
}

-- w: what the sink ends as, where it is still held
pub given_back : {U : Type 0} (story : UnitStory U) (dialect : Dialect) (s : List ℕ) (first now : Telling U) (w : U)
    (result : Result SectionRead SectionStop) → PassesOn story dialect s first now result
    → (first.sink.ghost_name ≡ now.sink.ghost_name → w ≡ now.sink.now)
    → ReadsSection story dialect s first.sink.now w result
given_back story dialect s first now w result passes is = rw (is (sym passes.sink)) passes.reads
