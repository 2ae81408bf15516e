-- What `find` answers and writes.
use Rattle.dl_sections.proofs.Names.{◌++◌, ◌∙◌, ◌∷◌, ◌≡◌, ◌⊎◌, [], ap, arith, concat, Dialect, ends, EndsAs, Err, false}
use Rattle.dl_sections.proofs.Names.{find_story, Finds, finds, fold-append, fold_stays, HasBegun, inl, inr, Keeps}
use Rattle.dl_sections.proofs.Names.{keeps_by_nothing, List, NoneAnswers, of_end, Ok, Option, Ran, refl, Result}
use Rattle.dl_sections.proofs.Names.{RunFault, Search, search_of, section_visits, Seeker, Seeks, seeks, seen, Settled}
use Rattle.dl_sections.proofs.Names.{Some, Sound, Strings, strings_of, Summary, summary_of, sym, take, TellsOut}
use Rattle.dl_sections.proofs.Names.{text_found, told, true, true≢false, Visit, VisitorStops, Write, ℕ}
use Rattle.dl_sections.proofs.Names.fault
use Rattle.dl_sections.proofs.FindingVisits.{none_answers, split_first, last_first, found_in_bytes}

module _ (dialect : Dialect) (own : Strings) (limit : ℕ) (bytes : List ℕ) (left : Option (List ℕ)) (first new : Seeker)
    (start now : Option (List ℕ)) (is : strings_of first.strings ≡ own) where
  abbrev Found : Result Summary RunFault → Type 0
  Found result = Finds dialect own first.place limit bytes left start now result

  abbrev Read : Result Summary RunFault → Type 0
  Read result = Ran find_story dialect limit bytes left first new start now result

  -- no unit answers, and nothing is written
  silent : (units : List (List ℕ)) (b : List ℕ)
      → Settled find_story first start now (section_visits dialect units b) (Seeks first new start now)
      → NoneAnswers dialect first.place units × Keeps start now
  silent units b settled = (
    (none_answers dialect first.place units b settled.tells.rows settled.tells.told).0,
    keeps_by_nothing start now [] refl (rw settled.tells.told at settled.out),
  )

  pub not_found : (summary : Summary) → new.found ≡ false → Read (Ok summary) → Found (Err fault.NotFound)
  not_found summary none (inl (units, ends, settled)) =
      let (answers, kept) = silent units [] settled in (units, summary, ends, answers, kept)
  not_found summary none (inr (units, back, has, counts, settled)) =
      absurd (true≢false (sym settled.tells.found ∙ none))

  pub found : (summary : Summary) → new.found ≡ true → Read (Ok summary) → Found (Ok summary)
  found summary some (inl (units, ends, settled)) = absurd (true≢false (sym some ∙ settled.tells.not_found))
  found summary some (inr (units, back, has, counts, settled)) =
      let t = settled.tells in
      let last = last_first dialect first.place units t.before t.rows t.h t.r t.whole t.told t.row in
      let f = last.0 in
      let text : search_of first.place (section_visits dialect units []) ≡ finds t.h t.r =
      rw (t.whole, fold-append (seen first.place) (seeks []) t.before (of_end (Some t.h) ∷ []), t.told, t.row) refl in (
        f.before,
        f.u,
        concat f.after ++ back,
        t.h,
        t.r,
        found_in_bytes dialect first.place (take limit bytes) units back t.h t.r has f,
        counts ∙ ap (summary_of dialect) (rw last.1 at f.whole),
        rw (text, is) at settled.out,
      )

  wrote : (units : List (List ℕ)) (b back : List ℕ) (heard more : List Visit) (out : ℕ)
      → HasBegun dialect (take limit bytes) units b back → section_visits dialect units b ≡ heard ++ more
      → (p : Search) → search_of first.place heard ≡ p → TellsOut start now (text_found own p) (fault.Write out)
      → Found (Err (fault.Write out))
  wrote units b back heard more out has whole (seeks rows) told tells = absurd (let below = tells.0 in omega arith)
  wrote units b back heard more out has whole (finds h r) told tells =
      let f = split_first dialect first.place units b h r (ap (search_of first.place) whole
      ∙ fold-append (seen first.place) (seeks []) heard more
      ∙ rw told (fold_stays (seen first.place) (finds h r) (λ v. refl) more)) in (
        f.before,
        f.u,
        concat f.after ++ (b ++ back),
        h,
        r,
        found_in_bytes dialect first.place (take limit bytes) units (b ++ back) h r has.has f,
        tells,
      )

  refused : (f : RunFault) (units : List (List ℕ)) (b back : List ℕ)
      → (EndsAs dialect limit bytes left units b back (Err f)
      × Settled find_story first start now (section_visits dialect units b) (Seeks first new start now))
      ⊎ (HasBegun dialect (take limit bytes) units b back × Sound dialect b
      × VisitorStops find_story first new start now (section_visits dialect units b) f)
      → (units : List (List ℕ)) × (b : List ℕ) × (back : List ℕ) × EndsAs dialect limit bytes left units b back (Err f)
      × NoneAnswers dialect first.place units × Keeps start now
  refused f units b back (inl (ends, settled)) =
      let (answers, kept) = silent units b settled in (units, b, back, ends, answers, kept)
  refused f units b back (inr (has, sound, stops)) = absurd stops.reason

  pub failed : (f : RunFault) → Read (Err f) → Found (Err f)
  failed (fault.Write out) ran =
      wrote ran.0 ran.1 ran.2 ran.4.0 ran.4.1 out ran.3 ran.4.2 (search_of first.place ran.4.0) refl (rw is at ran.4.3)
  failed fault.NotFound ran = absurd (refused fault.NotFound ran.0 ran.1 ran.2 ran.3).3
  failed fault.TwoSums ran = absurd (refused fault.TwoSums ran.0 ran.1 ran.2 ran.3).3
  failed fault.NoUnit ran = absurd (refused fault.NoUnit ran.0 ran.1 ran.2 ran.3).3
  failed f ran = refused f ran.0 ran.1 ran.2 ran.3
