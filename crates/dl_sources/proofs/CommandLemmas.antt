-- What `sources` answers and writes.
use Rattle.std.proofs.Common.{◌≡◌, ◌≢◌, ◌≤◌, inl, inr, ℕ, take, Bool, true, false, List, [], ◌∷◌, ◌++◌, length, length-append}
use Rattle.std.proofs.Common.{Option, Some, None, Result, Ok, Err, arith, refl, sym, ap, ap₂, subst, ◌∙◌, append-nil, true≢false}
use Rattle.std.specs.Prelude.{◌||◌}
use Rattle.std.specs.Io.KnownBytes.{Appends, Keeps}
use Rattle.std.proofs.KnownBytes.{Appends-trans}
use Rattle.dl_head.specs.declared.dialect.Dialect.{Dialect}
use Rattle.dl_print.specs.declared.fault.WriteFault.{WriteFault}
use Rattle.dl_print.specs.declared.summary.Summary.{Summary}
use Rattle.dl_print.specs.Output.{TellsOut}
use Rattle.dl_print.specs.ValueText.{Strings, strings_of}
use Rattle.dl_sections.specs.declared.fault.RunFault.{RunFault}
use Rattle.dl_sections.specs.declared.fault.RunFault.TheVariants as fault
use Rattle.dl_sections.specs.Blaming.{NeverBlames}
use Rattle.dl_sections.specs.Section.{EndsAs, Visit, section_visits}
use Rattle.dl_sections.specs.Visiting.{Ran}
use Rattle.dl_sections.proofs.BlameLemmas.{same_answer}
use Rattle.dl_making.specs.Few.{AreFew}
use Rattle.dl_making.specs.Room.{DirectoriesWithin}
use Rattle.dl_making.proofs.EndCounts.{ended_few, few_before, has_few}
use Rattle.dl_sources.specs.declared.lister.Lister.{Lister}
use Rattle.dl_sources.specs.declared.question.SourcesQuestion.{SourcesQuestion}
use Rattle.dl_sources.specs.declared.question.Sums.{Sums}
use Rattle.dl_sources.specs.Commands.{Lists, WantsMemory}
use Rattle.dl_sources.specs.Ended.{is_want, told}
use Rattle.dl_sources.specs.Holding.{Holds}
use Rattle.dl_sources.specs.Listing.{Listing, RefusesAfter, listing_story, told_by}
use Rattle.dl_sources.specs.Report.{report}
use Rattle.dl_sources.specs.Reporting.{PrintsReport}
use Rattle.dl_sources.specs.SectionTold.{mentions_of}
use Rattle.dl_sources.specs.Sources.{Mention}
use Rattle.dl_sources.specs.Wanting.{RefusesListing, listing_room}
use Rattle.dl_sources.proofs.ToldLemmas.{told_of_section}

pub or_false : (a : Bool) → (a || false) ≡ true → a ≡ true
or_false true is = refl
or_false false is = is

pub first_false : (a b : Bool) → (a || b) ≡ false → a ≡ false
first_false true b is = is
first_false false b is = refl

pub second_false : (a b : Bool) → (a || b) ≡ false → b ≡ false
second_false true b is = absurd (true≢false is)
second_false false b is = is

-- nothing was written
pub keeps_all : (start now : Option (List ℕ)) → Appends start now [] → Keeps start now
keeps_all None now out = tt
keeps_all (Some xs) None out = out
keeps_all (Some xs) (Some ys) out = out ∙ append-nil xs

pub want_is : {A : Type 0} (ended : Result A RunFault) → is_want ended ≡ true → ended ≡ Err fault.NoMemory
want_is (Err fault.NoMemory) is = refl
want_is (Ok summary) is = absurd (true≢false (sym is))
want_is (Err (fault.Write out)) is = absurd (true≢false (sym is))
want_is (Err (fault.Damage offset kind)) is = absurd (true≢false (sym is))
want_is (Err fault.Read) is = absurd (true≢false (sym is))
want_is (Err fault.SectionTooLong) is = absurd (true≢false (sym is))
want_is (Err fault.NotFound) is = absurd (true≢false (sym is))
want_is (Err fault.TwoSums) is = absurd (true≢false (sym is))
want_is (Err fault.NoUnit) is = absurd (true≢false (sym is))
want_is (Err (fault.ForeignUnit unit)) is = absurd (true≢false (sym is))
want_is (Err (fault.Emit unit e)) is = absurd (true≢false (sym is))

-- what was lost of the lines, where nothing was written before
pub lost_after : (start mid now : Option (List ℕ)) (text : List ℕ) (lost : WriteFault) → Appends start mid []
    → TellsOut mid now text lost → TellsOut start now text lost
lost_after start mid now text lost out t = (
  t.0,
  record {
    within = t.1.within;
    written = Appends-trans start mid now [] (take lost.out text) out t.1.written;
  },
)

-- a lister that is made for a question
pub record Knows {M : Type 0} (first : Lister M) (q : SourcesQuestion) (s : Strings) : Type 0 where
  pub question : first.question ≡ q
  pub strings : strings_of first.strings.now ≡ s

module _ {M : Type 0} (refuses : M → ℕ → Type 0) (dialect : Dialect) (first : Lister M) (q : SourcesQuestion) (s : Strings)
    (knows : Knows first q s) (memory : M) (same : first.memory.now ≡ memory) (limit : ℕ) (bytes : List ℕ) where
  pub refuses_listing : (visits : List Visit) → AreFew (length (take limit bytes)) visits → RefusesAfter refuses first visits
      → RefusesListing (refuses memory) s q (length (take limit bytes))
  refuses_listing visits few (n, refused, within) = (
    n,
    subst (λ m. refuses m n) same refused,
    λ directory d. subst (λ ss. n ≤ listing_room ss directory (length (take limit bytes))) knows.strings
        (within directory (length (take limit bytes))
        (subst (λ (qq : SourcesQuestion). DirectoriesWithin directory qq.directories) (sym knows.question) d) few),
  )

  mentions_is : (units : List (List ℕ)) (b : List ℕ)
      → told_by first (section_visits dialect units b) ≡ mentions_of dialect s q units
  mentions_is units b =
      told_of_section (strings_of first.strings.now) first.question dialect first.unit units b
      ∙ ap₂ (λ ss qq. mentions_of dialect ss qq units) knows.strings knows.question

  module _ (left : Option (List ℕ)) (new : Lister M) (start mid : Option (List ℕ)) where
    -- memory is wanted while a section is read
    wants : Ran (listing_story refuses) dialect limit bytes left first new start mid (Err fault.NoMemory)
        → WantsMemory (refuses memory) dialect s q limit bytes × Keeps start mid
    wants (units, b, back, inl (ends, settled)) =
        (inl (units, b, back, ends.0, ends.2), keeps_all start mid settled.out)
    wants (units, b, back, inr (has, sound, stops)) = (
      inr (refuses_listing (stops.before ++ stops.visit ∷ [])
          (few_before (length (take limit bytes)) _ stops.before stops.visit stops.more stops.whole
          (has_few dialect (take limit bytes) units b (b ++ back) (length (take limit bytes)) has.has
          (omega (arith, length-append b back)) (omega arith)))
          stops.reason.refused),
      keeps_all start mid stops.out,
    )

    -- where it ended for another reason, and what it was told then
    pub record Reads (ended : Result Summary RunFault) : Type 0 where
      pub units : List (List ℕ)
      pub b : List ℕ
      pub back : List ℕ
      pub ends : EndsAs dialect limit bytes left units b back ended
      pub stands : Listing refuses first new start mid (section_visits dialect units b)
      pub out : Appends start mid []

    pub reads : (ended : Result Summary RunFault) → is_want ended ≡ false
        → Ran (listing_story refuses) dialect limit bytes left first new start mid ended → Reads ended
    reads (Ok summary) is (inl (units, ends, settled)) =
        record { units = units; b = []; back = []; ends = ends; stands = settled.tells; out = settled.out }
    reads (Ok summary) is (inr done) = absurd done.4.tells
    reads (Err (fault.Write out)) is (units, b, back, has, writes) = absurd (let below = writes.3.0 in omega arith)
    reads (Err fault.NoMemory) is ran = absurd (true≢false is)
    reads (Err (fault.Damage offset kind)) is (units, b, back, inl (ends, settled)) =
        record { units = units; b = b; back = back; ends = ends; stands = settled.tells; out = settled.out }
    reads (Err (fault.Damage offset kind)) is (units, b, back, inr (has, sound, stops)) =
        absurd (let e = stops.reason.is in cc)
    reads (Err fault.Read) is (units, b, back, inl (ends, settled)) =
        record { units = units; b = b; back = back; ends = ends; stands = settled.tells; out = settled.out }
    reads (Err fault.Read) is (units, b, back, inr (has, sound, stops)) = absurd (let e = stops.reason.is in cc)
    reads (Err fault.SectionTooLong) is (units, b, back, inl (ends, settled)) =
        record { units = units; b = b; back = back; ends = ends; stands = settled.tells; out = settled.out }
    reads (Err fault.SectionTooLong) is (units, b, back, inr (has, sound, stops)) = absurd (let e = stops.reason.is in cc)
    reads (Err fault.NotFound) is (units, b, back, inl (ends, settled)) = absurd ends
    reads (Err fault.TwoSums) is (units, b, back, inl (ends, settled)) = absurd ends
    reads (Err fault.NoUnit) is (units, b, back, inl (ends, settled)) = absurd ends
    reads (Err fault.NotFound) is (units, b, back, inr (has, sound, stops)) = absurd (let e = stops.reason.is in cc)
    reads (Err fault.TwoSums) is (units, b, back, inr (has, sound, stops)) = absurd (let e = stops.reason.is in cc)
    reads (Err fault.NoUnit) is (units, b, back, inr (has, sound, stops)) = absurd (let e = stops.reason.is in cc)
    reads (Err (fault.ForeignUnit unit)) is (units, b, back, inl (ends, settled)) = absurd ends
    reads (Err (fault.ForeignUnit unit)) is (units, b, back, inr (has, sound, stops)) =
        absurd (let e = stops.reason.is in cc)
    reads (Err (fault.Emit unit e)) is (units, b, back, inl (ends, settled)) = absurd ends
    reads (Err (fault.Emit unit e)) is (units, b, back, inr (has, sound, stops)) = absurd (let r = stops.reason.is in cc)

    -- ---- memory was refused

    refused_then : new.is_refused ≡ true → (ended : Result Summary RunFault) → Reads ended
        → WantsMemory (refuses memory) dialect s q limit bytes × Keeps start mid
    refused_then e ended r = (
      inr (refuses_listing (section_visits dialect r.units r.b)
          (ended_few dialect limit bytes left r.units r.b r.back ended r.ends) (r.stands.refused e)),
      keeps_all start mid r.out,
    )

    pub wanted : (ended : Result Summary RunFault) → (new.is_refused || is_want ended) ≡ true
        → Ran (listing_story refuses) dialect limit bytes left first new start mid ended
        → Lists (refuses memory) dialect s q limit bytes left start mid (Err fault.NoMemory)
    wanted ended either ran = by (is_want ended) refl where
      by : (b : Bool) → is_want ended ≡ b → WantsMemory (refuses memory) dialect s q limit bytes × Keeps start mid
      by true is =
          wants (subst (Ran (listing_story refuses) dialect limit bytes left first new start mid) (want_is ended is) ran)
      by false is =
          refused_then (or_false new.is_refused (ap (λ b. new.is_refused || b) (sym is) ∙ either)) ended (reads ended is ran)

    -- ---- the lines

    pub holds : new.is_refused ≡ false → (ended : Result Summary RunFault) → (r : Reads ended)
        → Holds new.table (mentions_of dialect s q r.units)
    holds e ended r = subst (Holds new.table) (mentions_is r.units r.b) (r.stands.told e).table

    module _ (now : Option (List ℕ)) where
      other_is : (ended : Result Summary RunFault) → is_want ended ≡ false → ended ≢ Err fault.NoMemory
      other_is ended is e = true≢false (sym (ap is_want e) ∙ is)

      pub is_told : (ended : Result Summary RunFault) (printed : Result Sums WriteFault)
          → (new.is_refused || is_want ended) ≡ false
          → Ran (listing_story refuses) dialect limit bytes left first new start mid ended
          → ((mentions : List Mention) → Holds new.table mentions → PrintsReport mid now q mentions printed)
          → Lists (refuses memory) dialect s q limit bytes left start now (told ended printed)
      is_told ended printed neither ran prints =
          let is = second_false new.is_refused (is_want ended) neither in
          let r = reads ended is ran in
          by ended printed is r (prints (mentions_of dialect s q r.units)
          (holds (first_false new.is_refused (is_want ended) neither) ended r)) where
            by : (ended : Result Summary RunFault) (printed : Result Sums WriteFault) → is_want ended ≡ false → (r : Reads ended)
                → PrintsReport mid now q (mentions_of dialect s q r.units) printed
                → Lists (refuses memory) dialect s q limit bytes left start now (told ended printed)
            by ended (Err lost) is r p = (
              r.units,
              r.b,
              r.back,
              ended,
              other_is ended is,
              r.ends,
              lost_after start mid now (report q (mentions_of dialect s q r.units)) lost r.out p,
            )
            by (Ok summary) (Ok sums) is r p = (
              r.units,
              summary,
              (r.ends.0, refl, refl, r.ends.3, r.ends.4, r.ends.5),
              p.0,
              Appends-trans start mid now [] (report q (mentions_of dialect s q r.units)) r.out p.1,
            )
            by (Err fault.NoMemory) (Ok sums) is r p = absurd (true≢false is)
            by (Err (fault.Write out)) (Ok sums) is r p = absurd r.ends
            by (Err (fault.Damage offset kind)) (Ok sums) is r p =
                (r.units, r.b, r.back, r.ends, Appends-trans start mid now [] (report q (mentions_of dialect s q r.units)) r.out p.1)
            by (Err fault.Read) (Ok sums) is r p =
                (r.units, r.b, r.back, r.ends, Appends-trans start mid now [] (report q (mentions_of dialect s q r.units)) r.out p.1)
            by (Err fault.SectionTooLong) (Ok sums) is r p =
                (r.units, r.b, r.back, r.ends, Appends-trans start mid now [] (report q (mentions_of dialect s q r.units)) r.out p.1)
            by (Err fault.NotFound) (Ok sums) is r p = absurd r.ends
            by (Err fault.TwoSums) (Ok sums) is r p = absurd r.ends
            by (Err fault.NoUnit) (Ok sums) is r p = absurd r.ends
            by (Err (fault.ForeignUnit unit)) (Ok sums) is r p = absurd r.ends
            by (Err (fault.Emit unit e)) (Ok sums) is r p = absurd r.ends

-- ---- which reads are blamed, and which writes

-- memory is wanted, and no read failed
pub never_read : {M : Type 0} (refuses : M → ℕ → Type 0) (first : Lister M) (start : Option (List ℕ))
    → Listing refuses first first start start [] → Appends start start [] → NeverBlames (listing_story refuses) first start
never_read refuses first start tells out = record {
  tells = tells;
  out = out;
  never = λ visits e. let is = e.is in absurd cc;
}

pub told_read : (ended : Result Summary RunFault) (printed : Result Sums WriteFault) → told ended printed ≡ Err fault.Read
    → ended ≡ Err fault.Read
told_read ended (Err lost) e = absurd cc
told_read (Ok summary) (Ok sums) e = absurd cc
told_read (Err f) (Ok sums) e = same_answer f e
