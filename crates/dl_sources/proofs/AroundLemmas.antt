-- What `sources_around` answers and writes.
use Rattle.std.proofs.Common.{◌≡◌, ◌≢◌, inl, inr, ℕ, take, Bool, true, false, List, [], ◌∷◌, ◌++◌, length}
use Rattle.std.proofs.Common.{Option, Result, Ok, Err, arith, refl, sym, ap, ap₂, subst, ◌∙◌, true≢false}
use Rattle.std.specs.Prelude.{◌||◌}
use Rattle.std.specs.Io.KnownBytes.{Appends, Keeps}
use Rattle.std.proofs.KnownBytes.{Appends-trans}
use Rattle.dl_head.specs.declared.dialect.Dialect.{Dialect}
use Rattle.dl_print.specs.declared.fault.WriteFault.{WriteFault}
use Rattle.dl_print.specs.ValueText.{Strings, strings_of}
use Rattle.dl_sections.specs.declared.around.Survey.{Survey}
use Rattle.dl_sections.specs.declared.fault.RunFault.{RunFault}
use Rattle.dl_sections.specs.declared.fault.RunFault.TheVariants as fault
use Rattle.dl_sections.specs.Around.{Block, Rest, EndsAround, IsCutTo, RanAround, visits_around}
use Rattle.dl_sections.proofs.BlameLemmas.{same_answer}
use Rattle.dl_making.proofs.EndCounts.{cut_to_few, ended_around_few, few_before}
use Rattle.dl_sources.specs.declared.lister.Lister.{Lister}
use Rattle.dl_sources.specs.declared.question.SourcesQuestion.{SourcesQuestion}
use Rattle.dl_sources.specs.declared.question.Sums.{Sums}
use Rattle.dl_sources.specs.AroundCommands.{ListsAround, WantsAround, mentions_around}
use Rattle.dl_sources.specs.Ended.{is_want, told_around}
use Rattle.dl_sources.specs.Holding.{Holds}
use Rattle.dl_sources.specs.Listing.{Listing, listing_story, told_by}
use Rattle.dl_sources.specs.Report.{report}
use Rattle.dl_sources.specs.Reporting.{PrintsReport}
use Rattle.dl_sources.specs.Sources.{Mention}
use Rattle.dl_sources.proofs.CommandLemmas.{Knows, first_false, keeps_all, lost_after, or_false, refuses_listing, second_false}
use Rattle.dl_sources.proofs.CommandLemmas.{want_is}
use Rattle.dl_sources.proofs.ToldLemmas.{told_of_around}

module _ {M : Type 0} (refuses : M → ℕ → Type 0) (dialect : Dialect) (first : Lister M) (q : SourcesQuestion) (s : Strings)
    (knows : Knows first q s) (memory : M) (same : first.memory.now ≡ memory) (limit : ℕ) (bytes : List ℕ) where
  mentions_is : (blocks : List Block) (rest : Rest)
      → told_by first (visits_around dialect blocks rest) ≡ mentions_around dialect s q blocks
  mentions_is blocks rest =
      told_of_around (strings_of first.strings.now) first.question dialect first.unit blocks rest
      ∙ ap₂ (λ ss qq. mentions_around dialect ss qq blocks) knows.strings knows.question

  module _ (left : Option (List ℕ)) (new : Lister M) (start mid : Option (List ℕ)) where
    abbrev RanSo : Result Survey RunFault → Type 0
    RanSo ended = RanAround (listing_story refuses) dialect limit bytes left first new start mid ended

    -- memory is wanted while a section is read
    wants : RanSo (Err fault.NoMemory) → WantsAround (refuses memory) dialect s q limit bytes × Keeps start mid
    wants (blocks, rest, inl ((b, others, is, cut, sound, adds), settled)) = (
      inl (blocks, b, others, subst (λ r. IsCutTo dialect (take limit bytes) blocks r others) is cut, adds),
      keeps_all start mid settled.out,
    )
    wants (blocks, rest, inr (others, cut, sound, stops)) = (
      inr (refuses_listing refuses dialect first q s knows memory same limit bytes (stops.before ++ stops.visit ∷ [])
          (few_before (length (take limit bytes)) _ stops.before stops.visit stops.more stops.whole
          (cut_to_few dialect (take limit bytes) blocks rest others cut))
          stops.reason.refused),
      keeps_all start mid stops.out,
    )

    -- where it ended for another reason, and what it was told then
    pub record Reads (ended : Result Survey RunFault) : Type 0 where
      pub blocks : List Block
      pub rest : Rest
      pub ends : EndsAround dialect limit bytes left blocks rest ended
      pub stands : Listing refuses first new start mid (visits_around dialect blocks rest)
      pub out : Appends start mid []

    pub reads : (ended : Result Survey RunFault) → is_want ended ≡ false → RanSo ended → Reads ended
    reads (Ok survey) is (inl (blocks, rest, ends, settled)) =
        record { blocks = blocks; rest = rest; ends = ends; stands = settled.tells; out = settled.out }
    reads (Ok survey) is (inr done) = absurd done.4.tells
    reads (Err (fault.Write out)) is (blocks, rest, others, cut, writes) = absurd (let below = writes.3.0 in omega arith)
    reads (Err fault.NoMemory) is ran = absurd (true≢false is)
    reads (Err (fault.Damage offset kind)) is (blocks, rest, inl (ends, settled)) = absurd ends
    reads (Err (fault.Damage offset kind)) is (blocks, rest, inr stops) = absurd (let e = stops.3.reason.is in cc)
    reads (Err fault.Read) is (blocks, rest, inl (ends, settled)) =
        record { blocks = blocks; rest = rest; ends = ends; stands = settled.tells; out = settled.out }
    reads (Err fault.Read) is (blocks, rest, inr stops) = absurd (let e = stops.3.reason.is in cc)
    reads (Err fault.SectionTooLong) is (blocks, rest, inl (ends, settled)) =
        record { blocks = blocks; rest = rest; ends = ends; stands = settled.tells; out = settled.out }
    reads (Err fault.SectionTooLong) is (blocks, rest, inr stops) = absurd (let e = stops.3.reason.is in cc)
    reads (Err fault.NotFound) is (blocks, rest, inl (ends, settled)) = absurd ends
    reads (Err fault.TwoSums) is (blocks, rest, inl (ends, settled)) = absurd ends
    reads (Err fault.NoUnit) is (blocks, rest, inl (ends, settled)) = absurd ends
    reads (Err fault.NotFound) is (blocks, rest, inr stops) = absurd (let e = stops.3.reason.is in cc)
    reads (Err fault.TwoSums) is (blocks, rest, inr stops) = absurd (let e = stops.3.reason.is in cc)
    reads (Err fault.NoUnit) is (blocks, rest, inr stops) = absurd (let e = stops.3.reason.is in cc)
    reads (Err (fault.ForeignUnit unit)) is (blocks, rest, inl (ends, settled)) = absurd ends
    reads (Err (fault.ForeignUnit unit)) is (blocks, rest, inr stops) = absurd (let e = stops.3.reason.is in cc)
    reads (Err (fault.Emit unit e)) is (blocks, rest, inl (ends, settled)) = absurd ends
    reads (Err (fault.Emit unit e)) is (blocks, rest, inr stops) = absurd (let r = stops.3.reason.is in cc)

    -- ---- memory was refused

    refused_then : new.is_refused ≡ true → (ended : Result Survey RunFault) → Reads ended
        → WantsAround (refuses memory) dialect s q limit bytes × Keeps start mid
    refused_then e ended r = (
      inr (refuses_listing refuses dialect first q s knows memory same limit bytes (visits_around dialect r.blocks r.rest)
          (ended_around_few dialect limit bytes left r.blocks r.rest ended r.ends) (r.stands.refused e)),
      keeps_all start mid r.out,
    )

    pub wanted_around : (ended : Result Survey RunFault) → (new.is_refused || is_want ended) ≡ true → RanSo ended
        → ListsAround (refuses memory) dialect s q limit bytes left start mid (Err fault.NoMemory)
    wanted_around ended either ran = by (is_want ended) refl where
      by : (b : Bool) → is_want ended ≡ b → WantsAround (refuses memory) dialect s q limit bytes × Keeps start mid
      by true is = wants (subst RanSo (want_is ended is) ran)
      by false is =
          refused_then (or_false new.is_refused (ap (λ b. new.is_refused || b) (sym is) ∙ either)) ended (reads ended is ran)

    -- ---- the lines

    pub holds : new.is_refused ≡ false → (ended : Result Survey RunFault) → (r : Reads ended)
        → Holds new.table (mentions_around dialect s q r.blocks)
    holds e ended r = subst (Holds new.table) (mentions_is r.blocks r.rest) (r.stands.told e).table

    module _ (now : Option (List ℕ)) where
      other_is : (ended : Result Survey RunFault) → is_want ended ≡ false → ended ≢ Err fault.NoMemory
      other_is ended is e = true≢false (sym (ap is_want e) ∙ is)

      pub is_told_around : (ended : Result Survey RunFault) (printed : Result Sums WriteFault)
          → (new.is_refused || is_want ended) ≡ false → RanSo ended
          → ((mentions : List Mention) → Holds new.table mentions → PrintsReport mid now q mentions printed)
          → ListsAround (refuses memory) dialect s q limit bytes left start now (told_around ended printed)
      is_told_around ended printed neither ran prints =
          let is = second_false new.is_refused (is_want ended) neither in
          let r = reads ended is ran in
          by ended printed is r (prints (mentions_around dialect s q r.blocks)
          (holds (first_false new.is_refused (is_want ended) neither) ended r)) where
            by : (ended : Result Survey RunFault) (printed : Result Sums WriteFault) → is_want ended ≡ false → (r : Reads ended)
                → PrintsReport mid now q (mentions_around dialect s q r.blocks) printed
                → ListsAround (refuses memory) dialect s q limit bytes left start now (told_around ended printed)
            by ended (Err lost) is r p = (
              r.blocks,
              r.rest,
              ended,
              other_is ended is,
              r.ends,
              lost_after start mid now (report q (mentions_around dialect s q r.blocks)) lost r.out p,
            )
            by (Ok survey) (Ok sums) is r p = (
              r.blocks,
              r.rest,
              survey,
              r.ends,
              refl,
              p.0,
              Appends-trans start mid now [] (report q (mentions_around dialect s q r.blocks)) r.out p.1,
            )
            by (Err fault.NoMemory) (Ok sums) is r p = absurd (true≢false is)
            by (Err (fault.Write out)) (Ok sums) is r p = absurd r.ends
            by (Err (fault.Damage offset kind)) (Ok sums) is r p = absurd r.ends
            by (Err fault.Read) (Ok sums) is r p =
                (r.blocks, r.rest, r.ends, Appends-trans start mid now [] (report q (mentions_around dialect s q r.blocks)) r.out p.1)
            by (Err fault.SectionTooLong) (Ok sums) is r p =
                (r.blocks, r.rest, r.ends, Appends-trans start mid now [] (report q (mentions_around dialect s q r.blocks)) r.out p.1)
            by (Err fault.NotFound) (Ok sums) is r p = absurd r.ends
            by (Err fault.TwoSums) (Ok sums) is r p = absurd r.ends
            by (Err fault.NoUnit) (Ok sums) is r p = absurd r.ends
            by (Err (fault.ForeignUnit unit)) (Ok sums) is r p = absurd r.ends
            by (Err (fault.Emit unit e)) (Ok sums) is r p = absurd r.ends

pub told_around_read : (ended : Result Survey RunFault) (printed : Result Sums WriteFault)
    → told_around ended printed ≡ Err fault.Read → ended ≡ Err fault.Read
told_around_read ended (Err lost) e = absurd cc
told_around_read (Ok survey) (Ok sums) e = absurd cc
told_around_read (Err f) (Ok sums) e = same_answer f e
