-- What `sources_of_unit` answers and writes.
use Rattle.std.proofs.Common.{◌≡◌, ◌∙◌, ◌++◌, ◌∷◌, ℕ, List, [], length, take, Bool, true, false, Option, Some, None, Result, Ok, Err}
use Rattle.std.proofs.Common.{inl, inr, refl, sym, ap, ap₂, subst, append_assoc, arith, true≢false}
use Rattle.std.specs.Prelude.{◌||◌, ◌⊎◌, is_some, option_map}
use Rattle.std.specs.Io.KnownBytes.{Appends, Keeps}
use Rattle.std.specs.List.{AllByRecursion}
use Rattle.std.specs.Option.{option_or}
use Rattle.std.proofs.KnownBytes.{Appends-trans}
use Rattle.std.proofs.lemmas.List.Folds.{list_any-append}
use Rattle.dl_head.specs.declared.dialect.Dialect.{Dialect}
use Rattle.dl_print.specs.declared.fault.WriteFault.{WriteFault}
use Rattle.dl_print.specs.Output.{BlamesWriter as PrintBlames}
use Rattle.dl_print.specs.ValueText.{Strings, strings_of}
use Rattle.dl_rows.specs.LineUnit.{unit_rows}
use Rattle.dl_sections.specs.declared.around.Damage.{Damage}
use Rattle.dl_sections.specs.declared.around.DamagedUnits.{DamagedUnits}
use Rattle.dl_sections.specs.declared.around.Survey.{Survey}
use Rattle.dl_sections.specs.declared.fault.RunFault.{RunFault}
use Rattle.dl_sections.specs.declared.fault.RunFault.TheVariants as fault
use Rattle.dl_sections.specs.Around.{Block, EndsAround, IsBlock, IsCutTo, RanAround, Rest, begun, bytes_of, damaged_units, faults_of, rest_visits}
use Rattle.dl_sections.specs.Around.{visits_around, whole}
use Rattle.dl_sections.specs.Blaming.{BlamesWriter, NeverBlames}
use Rattle.dl_sections.specs.Ending.{WantsNoMore}
use Rattle.dl_sections.specs.Section.{Visit, header_of, of_end}
use Rattle.dl_sections.specs.Visiting.{as_run}
use Rattle.dl_making.proofs.EndCounts.{cut_to_few, few_before}
use Rattle.dl_making.proofs.VisitCounts.{few_front}
use Rattle.dl_making.specs.Few.{AreFew}
use Rattle.dl_sources.specs.declared.lister.Lister.{Lister}
use Rattle.dl_sources.specs.declared.question.SourcesQuestion.{SourcesQuestion}
use Rattle.dl_sources.specs.declared.question.Sums.{Sums}
use Rattle.dl_sources.specs.declared.unit_listing.Current.TheVariants as now
use Rattle.dl_sources.specs.declared.unit_listing.UnitLister.{UnitLister}
use Rattle.dl_sources.specs.Ended.{is_want}
use Rattle.dl_sources.specs.Holding.{Holds}
use Rattle.dl_sources.specs.Listing.{RefusesAfter}
use Rattle.dl_sources.specs.Report.{report}
use Rattle.dl_sources.specs.Reporting.{PrintsReport}
use Rattle.dl_sources.specs.SectionTold.{unit_mentions}
use Rattle.dl_sources.specs.Sources.{Mention}
use Rattle.dl_sources.specs.UnitCommand.{ListsUnit, ReadsOthers, ReadsWhole, WantsUnit, begins_at, damage_at, first_of, is_whole_at, told_of}
use Rattle.dl_sources.specs.UnitListing.{EndsDamaged, EndsWhole, GoesOnWithUnit, begins, begins_in, first_damage, not_whole, told_in}
use Rattle.dl_sources.specs.UnitListing.{unit_story}
use Rattle.dl_sources.proofs.CommandLemmas.{Knows, first_false, keeps_all, lost_after, or_false, refuses_listing, second_false}
use Rattle.dl_sources.proofs.CommandLemmas.{want_is}
use Rattle.dl_sources.proofs.UnitBlocks.{LastWhole, begins_told, damage_told, first_is, last_whole, none_whole}
use Rattle.dl_sources.proofs.UnitVisits.{begun_before, few_told}

-- a lister of a unit that was told nothing
abbrev pub first_of_unit : {M : Type 0} → Lister M → (unit : ℕ) → UnitLister M
first_of_unit l unit = record { lister = l; unit = unit; current = now.Other; is_whole = false; damage = None }

module _ {M : Type 0} (refuses : M → ℕ → Type 0) (dialect : Dialect) (l : Lister M) (unit : ℕ) (q : SourcesQuestion) (s : Strings)
    (knows : Knows l q s) (memory : M) (same : l.memory.now ≡ memory) (limit : ℕ) (bytes : List ℕ) (left : Option (List ℕ))
    (new : UnitLister M) (start mid : Option (List ℕ)) where
  abbrev first : UnitLister M
  first = first_of_unit l unit

  abbrev RanSo : Result Survey RunFault → Type 0
  RanSo ended = RanAround (unit_story refuses) dialect limit bytes left first new start mid ended

  abbrev Stands : List Visit → Type 0
  Stands visits = GoesOnWithUnit refuses first new start mid visits

  begins_at_all : (blocks : List Block) (rest : Rest) → begins_in unit (visits_around dialect blocks rest) ≡ true
      → begins_at dialect unit 0 blocks rest ≡ true
  begins_at_all blocks rest has =
      begins_told dialect unit 0 (length (bytes_of blocks)) blocks rest (omega arith) has

  not_whole_at : (blocks : List Block) (rest : Rest) → AllByRecursion (IsBlock dialect) blocks
      → Stands (visits_around dialect blocks rest) → is_whole_at unit 0 blocks ≡ false
  not_whole_at blocks rest each stands =
      none_whole dialect unit 0 blocks (rest_visits dialect (length (bytes_of blocks)) rest) each stands.going

  damage_is : (blocks : List Block) (rest : Rest)
      → first_damage unit (visits_around dialect blocks rest) ≡ damage_at unit 0 blocks rest
  damage_is blocks rest = damage_told dialect unit 0 (length (bytes_of blocks)) blocks rest (omega arith)

  -- some visits of a section tell of the beginning of the unit
  some_begin : (front back : List Visit) → begins_in unit front ≡ true → begins_in unit (front ++ back) ≡ true
  some_begin front back has =
      list_any-append (begins unit) front back ∙ ap (λ (b : Bool). b || begins_in unit back) has

  -- ---- memory was refused

  wants_listing : (blocks : List Block) (rest : Rest) (others : List ℕ) → IsCutTo dialect (take limit bytes) blocks rest others
      → (front back : List Visit) → visits_around dialect blocks rest ≡ front ++ back → begins_in unit front ≡ true
      → RefusesAfter refuses l (told_in unit now.Other front) → WantsUnit (refuses memory) dialect s q unit limit bytes
  wants_listing blocks rest others cut front back parted has refused = inr (
    blocks,
    rest,
    others,
    cut,
    begins_at_all blocks rest (ap (begins_in unit) parted ∙ some_begin front back has),
    refuses_listing refuses dialect l q s knows memory same limit bytes (told_in unit now.Other front)
        (few_told unit now.Other front (length (take limit bytes))
        (few_front (length (take limit bytes)) front back
        (subst (AreFew (length (take limit bytes))) parted (cut_to_few dialect (take limit bytes) blocks rest others cut))))
        refused,
  )

  -- while a section is read
  wants : RanSo (Err fault.NoMemory) → WantsUnit (refuses memory) dialect s q unit limit bytes × Keeps start mid
  wants (blocks, rest, inl ((b, others, is, cut, sound, adds), settled)) = (
    inl (
      blocks,
      b,
      others,
      subst (λ (r : Rest). IsCutTo dialect (take limit bytes) blocks r others) is cut,
      adds,
      not_whole_at blocks rest cut.each settled.tells,
    ),
    keeps_all start mid settled.out,
  )
  wants (blocks, rest, inr (others, cut, sound, stops)) = (
    wants_listing blocks rest others cut (stops.before ++ stops.visit ∷ []) stops.more
        (stops.whole ∙ sym (append_assoc stops.before (stops.visit ∷ []) stops.more)) stops.reason.begins stops.reason.refused,
    keeps_all start mid stops.out,
  )

  -- where its table of files is told
  wants_whole : (blocks : List Block) (others : List ℕ) → IsCutTo dialect (take limit bytes) blocks (begun []) others
      → (w : EndsWhole refuses first new (visits_around dialect blocks (begun []))) → new.lister.is_refused ≡ true
      → WantsUnit (refuses memory) dialect s q unit limit bytes
  wants_whole blocks others cut w refused =
      wants_listing blocks (begun []) others cut w.before (of_end w.header ∷ []) w.ends
      (begun_before unit now.Other w.before refl w.current) (w.refused refused)

  -- ---- the reading failed for another reason

  -- what it was told then
  pub record Reads (f : RunFault) : Type 0 where
    pub blocks : List Block
    pub rest : Rest
    pub ends : EndsAround dialect limit bytes left blocks rest (Err f)
    pub stands : Stands (visits_around dialect blocks rest)
    pub out : Appends start mid []

  reads : (f : RunFault) → is_want {A = Survey} (Err f) ≡ false → RanSo (Err f) → Reads f
  reads (fault.Write out) is (blocks, rest, others, cut, writes) = absurd (let below = writes.3.0 in omega arith)
  reads fault.NoMemory is ran = absurd (true≢false is)
  reads (fault.Damage offset kind) is (blocks, rest, inl (ends, settled)) = absurd ends
  reads (fault.Damage offset kind) is (blocks, rest, inr stops) = absurd (let e = stops.3.reason.is in cc)
  reads fault.Read is (blocks, rest, inl (ends, settled)) =
      record { blocks = blocks; rest = rest; ends = ends; stands = settled.tells; out = settled.out }
  reads fault.Read is (blocks, rest, inr stops) = absurd (let e = stops.3.reason.is in cc)
  reads fault.SectionTooLong is (blocks, rest, inl (ends, settled)) =
      record { blocks = blocks; rest = rest; ends = ends; stands = settled.tells; out = settled.out }
  reads fault.SectionTooLong is (blocks, rest, inr stops) = absurd (let e = stops.3.reason.is in cc)
  reads fault.NotFound is (blocks, rest, inl (ends, settled)) = absurd ends
  reads fault.TwoSums is (blocks, rest, inl (ends, settled)) = absurd ends
  reads fault.NoUnit is (blocks, rest, inl (ends, settled)) = absurd ends
  reads fault.NotFound is (blocks, rest, inr stops) = absurd (let e = stops.3.reason.is in cc)
  reads fault.TwoSums is (blocks, rest, inr stops) = absurd (let e = stops.3.reason.is in cc)
  reads fault.NoUnit is (blocks, rest, inr stops) = absurd (let e = stops.3.reason.is in cc)
  reads (fault.ForeignUnit n) is (blocks, rest, inl (ends, settled)) = absurd ends
  reads (fault.ForeignUnit n) is (blocks, rest, inr stops) = absurd (let e = stops.3.reason.is in cc)
  reads (fault.Emit n e) is (blocks, rest, inl (ends, settled)) = absurd ends
  reads (fault.Emit n e) is (blocks, rest, inr stops) = absurd (let r = stops.3.reason.is in cc)

  refused_then : new.lister.is_refused ≡ true → (ended : Result Survey RunFault) → is_want ended ≡ false → RanSo ended
      → WantsUnit (refuses memory) dialect s q unit limit bytes × Keeps start mid
  refused_then e (Ok survey) is (inl (blocks, rest, ends, settled)) =
      absurd (true≢false (sym e ∙ settled.tells.sufficed))
  refused_then e (Ok survey) is (inr (blocks, others, cut, surveyed, settled)) =
      (by settled.tells.ended, keeps_all start mid settled.out)
    where
      by : EndsWhole refuses first new (visits_around dialect blocks (begun []))
          ⊎ EndsDamaged first new (visits_around dialect blocks (begun []))
          → WantsUnit (refuses memory) dialect s q unit limit bytes
      by (inl w) = wants_whole blocks others cut w e
      by (inr d) = absurd (true≢false (sym e ∙ d.sufficed))
  refused_then e (Err f) is ran = absurd (true≢false (sym e ∙ (reads f is ran).stands.sufficed))

  pub wanted_of_unit : (ended : Result Survey RunFault) → (new.lister.is_refused || is_want ended) ≡ true → RanSo ended
      → ListsUnit (refuses memory) dialect s q unit limit bytes left start mid (Err fault.NoMemory)
  wanted_of_unit ended either ran = by (is_want ended) refl where
    by : (b : Bool) → is_want ended ≡ b → WantsUnit (refuses memory) dialect s q unit limit bytes × Keeps start mid
    by true is = wants (subst RanSo (want_is ended is) ran)
    by false is =
        refused_then (or_false new.lister.is_refused (ap (λ (b : Bool). new.lister.is_refused || b) (sym is) ∙ either)) ended is ran

  pub fails_with : (f : RunFault) → (new.lister.is_refused || is_want {A = Survey} (Err f)) ≡ false → RanSo (Err f)
      → ListsUnit (refuses memory) dialect s q unit limit bytes left start mid (Err f)
  fails_with f neither ran =
      let is = second_false new.lister.is_refused (is_want {A = Survey} (Err f)) neither in by f is (reads f is ran)
    where
      by : (f : RunFault) → is_want {A = Survey} (Err f) ≡ false → Reads f → ListsUnit (refuses memory) dialect s q unit limit bytes left start mid (Err f)
      by fault.Read is r =
          (r.blocks, r.rest, r.ends, not_whole_at r.blocks r.rest r.ends.0.each r.stands, keeps_all start mid r.out)
      by fault.SectionTooLong is r =
          (r.blocks, r.rest, r.ends, not_whole_at r.blocks r.rest r.ends.0.each r.stands, keeps_all start mid r.out)
      by fault.NoMemory is r = absurd (true≢false is)
      by (fault.Write out) is r = absurd r.ends
      by (fault.Damage offset kind) is r = absurd r.ends
      by fault.NotFound is r = absurd r.ends
      by fault.TwoSums is r = absurd r.ends
      by fault.NoUnit is r = absurd r.ends
      by (fault.ForeignUnit n) is r = absurd r.ends
      by (fault.Emit n e) is r = absurd r.ends

  -- the end of a section is no fault
  pub no_unit_read : (f : RunFault) → RanSo (Err f) → f ≡ fault.NoUnit → ⊥
  no_unit_read f ran is = (reads fault.NoUnit refl (subst (λ (g : RunFault). RanSo (Err g)) is ran)).ends

  -- ---- no whole unit is the one

  module _ (survey : Survey) (whole_not : new.is_whole ≡ false) where
    abbrev others_of : (blocks : List Block) (rest : Rest) → (ends : EndsAround dialect limit bytes left blocks rest (Ok survey))
        → Stands (visits_around dialect blocks rest) → ReadsOthers dialect unit limit bytes left
    others_of blocks rest ends stands = record {
      blocks = blocks;
      rest = rest;
      survey = survey;
      ends = ends;
      not_whole = not_whole_at blocks rest ends.0.each stands;
    }

    -- at the end of the section
    at_end : (blocks : List Block) (rest : Rest) → (ends : EndsAround dialect limit bytes left blocks rest (Ok survey))
        → Stands (visits_around dialect blocks rest) → Keeps start mid
        → ListsUnit (refuses memory) dialect s q unit limit bytes left start mid (Err (not_whole new.damage survey.damaged))
    at_end blocks rest ends stands keeps =
        subst (λ (f : RunFault). ListsUnit (refuses memory) dialect s q unit limit bytes left start mid (Err f))
        (sym (ap₂ not_whole (stands.damage ∙ damage_is blocks rest) (ap (λ (v : Survey). v.damaged) ends.2)))
        (by (damage_at unit 0 blocks rest) refl)
      where
        read : ReadsOthers dialect unit limit bytes left
        read = others_of blocks rest ends stands

        none : damage_at unit 0 blocks rest ≡ None → (faults : List Damage) → faults_of blocks rest ≡ faults
            → ListsUnit (refuses memory) dialect s q unit limit bytes left start mid (Err (not_whole None (damaged_units faults)))
        none own [] is = (read, is, keeps)
        none own (damage ∷ others) is = (inr (read, own, ap first_of is), keeps)

        by : (own : Option Damage) → damage_at unit 0 blocks rest ≡ own
            → ListsUnit (refuses memory) dialect s q unit limit bytes left start mid
            (Err (not_whole own (damaged_units (faults_of blocks rest))))
        by (Some damage) is = (inl (blocks, rest, inl (survey, ends), is), keeps)
        by None is = none is (faults_of blocks rest) refl

    -- after the end of another unit
    after_damage : (blocks : List Block) (others : List ℕ) → IsCutTo dialect (take limit bytes) blocks (begun []) others
        → (d : EndsDamaged first new (visits_around dialect blocks (begun []))) → Keeps start mid
        → ListsUnit (refuses memory) dialect s q unit limit bytes left start mid (Err (not_whole new.damage survey.damaged))
    after_damage blocks others cut d keeps = by new.damage refl d.is_damaged where
      by : (damage : Option Damage) → new.damage ≡ damage → is_some damage ≡ true
          → ListsUnit (refuses memory) dialect s q unit limit bytes left start mid (Err (not_whole damage survey.damaged))
      by (Some damage) is some = (
        inl (blocks, begun [], inr (others, refl, cut), sym (damage_is blocks (begun [])) ∙ sym d.damage ∙ is),
        keeps,
      )
      by None is some = absurd (true≢false (sym some))

    pub not_found : RanSo (Ok survey)
        → ListsUnit (refuses memory) dialect s q unit limit bytes left start mid (Err (not_whole new.damage survey.damaged))
    not_found (inl (blocks, rest, ends, settled)) = at_end blocks rest ends settled.tells (keeps_all start mid settled.out)
    not_found (inr (blocks, others, cut, surveyed, settled)) = by settled.tells.ended where
      by : EndsWhole refuses first new (visits_around dialect blocks (begun []))
          ⊎ EndsDamaged first new (visits_around dialect blocks (begun []))
          → ListsUnit (refuses memory) dialect s q unit limit bytes left start mid (Err (not_whole new.damage survey.damaged))
      by (inl w) = absurd (true≢false (sym w.whole ∙ whole_not))
      by (inr d) = after_damage blocks others cut d (keeps_all start mid settled.out)

  -- ---- the unit is whole

  -- what its lister was told then
  pub record Found : Type 0 where
    pub read : ReadsWhole dialect unit limit bytes
    pub table : Holds new.lister.table (told_of s q read)
    pub out : Appends start mid []

  found_of : (blocks : List Block) (others : List ℕ) → IsCutTo dialect (take limit bytes) blocks (begun []) others
      → (w : EndsWhole refuses first new (visits_around dialect blocks (begun []))) → new.lister.is_refused ≡ false
      → Appends start mid [] → Found
  found_of blocks others cut w sufficed out =
      let last = last_whole dialect unit blocks w.before w.header cut.each w.ends w.going w.current in
      record {
        read = record {
          before = last.init;
          u = last.u;
          others = others;
          cut = subst (λ (bs : List Block). IsCutTo dialect (take limit bytes) bs (begun []) others) last.is cut;
          at = last.at;
        };
        table = subst (Holds new.lister.table)
            (last.told (strings_of l.strings.now) l.question l.unit
            ∙ ap₂ (λ (ss : Strings) (qq : SourcesQuestion). unit_mentions ss qq unit (header_of dialect last.u)
            (unit_rows dialect last.u)) knows.strings knows.question)
            (w.table sufficed);
        out = out;
      }

  pub found : (survey : Survey) → new.is_whole ≡ true → new.lister.is_refused ≡ false → RanSo (Ok survey) → Found
  found survey is_whole sufficed (inl (blocks, rest, ends, settled)) =
      absurd (true≢false (sym is_whole ∙ settled.tells.not_whole))
  found survey is_whole sufficed (inr (blocks, others, cut, surveyed, settled)) = by settled.tells.ended where
    by : EndsWhole refuses first new (visits_around dialect blocks (begun []))
        ⊎ EndsDamaged first new (visits_around dialect blocks (begun [])) → Found
    by (inl w) = found_of blocks others cut w sufficed settled.out
    by (inr d) = absurd (true≢false (sym is_whole ∙ d.not_whole))

  pub is_told_of_unit : (now : Option (List ℕ)) (printed : Result Sums WriteFault) → Found
      → ((mentions : List Mention) → Holds new.lister.table mentions → PrintsReport mid now q mentions printed)
      → ListsUnit (refuses memory) dialect s q unit limit bytes left start now (as_run printed)
  is_told_of_unit now printed f prints = by printed (prints (told_of s q f.read) f.table) where
    by : (printed : Result Sums WriteFault) → PrintsReport mid now q (told_of s q f.read) printed
        → ListsUnit (refuses memory) dialect s q unit limit bytes left start now (as_run printed)
    by (Ok sums) p = (f.read, p.0, Appends-trans start mid now [] (report q (told_of s q f.read)) f.out p.1)
    by (Err lost) p = (f.read, lost_after start mid now (report q (told_of s q f.read)) lost f.out p)

-- ---- which reads are blamed

pub never_read : {M : Type 0} (refuses : M → ℕ → Type 0) (first : UnitLister M) (start : Option (List ℕ))
    → GoesOnWithUnit refuses first first start start [] → Appends start start [] → NeverBlames (unit_story refuses) first start
never_read refuses first start tells out = record {
  tells = tells;
  out = out;
  never = λ visits e. let is = e.is in absurd cc;
}

pub damaged_read : (own : Option Damage) (damaged : Option DamagedUnits) → not_whole own damaged ≡ fault.Read → ⊥
damaged_read (Some damage) damaged e = absurd cc
damaged_read None (Some units) e = absurd cc
damaged_read None None e = absurd cc

pub printed_read : (printed : Result Sums WriteFault) → as_run printed ≡ Err fault.Read → ⊥
printed_read (Ok sums) e = absurd cc
printed_read (Err lost) e = absurd cc

pub printed_unit : (printed : Result Sums WriteFault) → as_run printed ≡ Err fault.NoUnit → ⊥
printed_unit (Ok sums) e = absurd cc
printed_unit (Err lost) e = absurd cc

pub same_unit : {A : Type 0} (f : RunFault) → ◌≡◌ {A = Result A RunFault} (Err f) (Err fault.NoUnit) → f ≡ fault.NoUnit
same_unit f e = cc

pub printed_writer : (fails : Type 0) (printed : Result Sums WriteFault) → PrintBlames fails printed
    → BlamesWriter fails (as_run printed)
printed_writer fails (Ok sums) blames = tt
printed_writer fails (Err lost) blames = blames

-- ---- when the bytes are over: no unit is damaged

pub none_damaged : (own : Option Damage) (damaged : Option DamagedUnits) → not_whole own damaged ≡ fault.NoUnit
    → (own ≡ None) × (damaged ≡ None)
none_damaged (Some damage) damaged e = absurd cc
none_damaged None (Some units) e = absurd cc
none_damaged None None e = (refl, refl)

-- a lister that found no whole unit, and no damage of it, wants more
pub only_over : {M : Type 0} (refuses : M → ℕ → Type 0) (first new : UnitLister M) (start now : Option (List ℕ)) (Over : Type 0)
    → new.is_whole ≡ false → new.damage ≡ None
    → Over ⊎ WantsNoMore (unit_story refuses) first new start now → Over
only_over refuses old new start now Over whole_not none (inl over) = over
only_over refuses old new start now Over whole_not none (inr (visits, ends)) = by ends.ended where
  by : EndsWhole refuses old new visits ⊎ EndsDamaged old new visits → Over
  by (inl w) = absurd (true≢false (sym w.whole ∙ whole_not))
  by (inr d) = absurd (true≢false (sym d.is_damaged ∙ ap is_some none))
