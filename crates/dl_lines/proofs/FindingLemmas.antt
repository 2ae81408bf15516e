-- What `find_places` and `find_places_around` find.
use Rattle.std.proofs.Common.{◌≡◌, ◌≢◌, ◌⊎◌, inl, inr, ℕ, ◌+◌, true, false, List, [], ◌∷◌, ◌++◌, take}
use Rattle.std.proofs.Common.{Option, Result, Ok, Err, refl, sym, ap, ◌∙◌, subst, append_assoc, append-nil}
use Rattle.std.proofs.Common.{true≢false, arith}
use Rattle.dl_head.specs.declared.dialect.Dialect.{Dialect}
use Rattle.dl_memory.specs.Refusals.{IsRefused}
use Rattle.dl_print.specs.declared.summary.Summary.{Summary}
use Rattle.dl_print.specs.ValueText.{Strings}
use Rattle.dl_rows.specs.Runs.{Sound}
use Rattle.dl_sections.specs.declared.around.Survey.{Survey}
use Rattle.dl_sections.specs.declared.fault.RunFault.{RunFault}
use Rattle.dl_sections.specs.declared.fault.RunFault.TheVariants as fault
use Rattle.dl_sections.specs.Around.{Block, EndsAround, IsCutTo, IsSoundSoFar, RanAround, Rest, visits_around}
use Rattle.dl_sections.specs.Section.{EndsAs, HasBegun, Visit, section_visits}
use Rattle.dl_sections.specs.Visiting.{Ran, Settled, VisitorStops}
use Rattle.dl_addr.proofs.RoomLemmas.{refused_within}
use Rattle.dl_lines.specs.declared.places.FoundPlaces.{FoundPlaces}
use Rattle.dl_lines.specs.declared.question.PlacesQuestion.{PlacesQuestion}
use Rattle.dl_lines.specs.declared.seeker.LineSeeker.{LineSeeker}
use Rattle.dl_lines.specs.AroundCommands.{places_around}
use Rattle.dl_lines.specs.FoundPlaces.{FindsPlaces, FindsPlacesAround, known_to, places_told}
use Rattle.dl_lines.specs.Places.{places_in}
use Rattle.dl_lines.specs.Printing.{is_no_memory}
use Rattle.dl_lines.specs.Room.{told_room}
use Rattle.dl_lines.specs.Seeking.{IsMadeFor, Seeking, heard_after, known_of, nothing_heard, seek_story}
use Rattle.dl_lines.specs.Telling.{IsCollected, IsNothing}
use Rattle.dl_lines.proofs.AroundLemmas.{of_around}
use Rattle.dl_lines.proofs.HeardLemmas.{room_more}
use Rattle.dl_lines.proofs.UnitLemmas.{of_section}

-- ---- how the reading ended

module _ {A : Type 0} (found : FoundPlaces A) (ended : Result A RunFault)
    (ends : (found.end ≡ ended) ⊎ (found.end ≡ Err fault.NoMemory)) where
  pub read_before : found.end ≡ Err fault.Read → ended ≡ Err fault.Read
  read_before e = by ends where
    by : (found.end ≡ ended) ⊎ (found.end ≡ Err fault.NoMemory) → ended ≡ Err fault.Read
    by (inl is) = sym is ∙ e
    by (inr is) = absurd (let other = sym is ∙ e in cc)

  pub ends_with : (P : Result A RunFault → Type 0) → P (Err fault.NoMemory) → P ended → P found.end
  ends_with P none p = by ends where
    by : (found.end ≡ ended) ⊎ (found.end ≡ Err fault.NoMemory) → P found.end
    by (inl is) = subst P (sym is) p
    by (inr is) = subst P (sym is) none

pub nothing_read : {A : Type 0} (end : Result A RunFault) → end ≡ Err fault.NoMemory → end ≡ Err fault.Read → ⊥
nothing_read end is e = absurd (let other = sym is ∙ e in cc)

not_refused : {A : Type 0} (ended end : Result A RunFault) → is_no_memory ended ≡ false → end ≡ ended → end ≢ Err fault.NoMemory
not_refused ended end whole same e = true≢false (sym (ap is_no_memory (sym same ∙ e)) ∙ whole)

-- ---- the whole, up to a fault

module _ {M : Type 0} (refuses : M → ℕ → Type 0) (dialect : Dialect) (s : Strings) (q : PlacesQuestion) (first new : LineSeeker M)
    (limit : ℕ) (bytes : List ℕ) (left start now : Option (List ℕ))
    (known : known_of first ≡ known_to s q) (memory : M) (same : first.memory.now ≡ memory)
    (made_for : IsMadeFor first (q.wanted ∷ []) q.exact)
    (ended : Result Summary RunFault) (found : FoundPlaces Summary)
    (refused : is_no_memory ended ≡ true → IsNothing found)
    (collected : (visits : List Visit) → is_no_memory ended ≡ false → Seeking refuses first new start now visits
    → IsCollected (IsRefused (refuses memory) (told_room (known_of first) visits))
    (places_told q.exact q.wanted (heard_after (known_of first) nothing_heard visits).ended) ended found) where
  abbrev Refuses : ℕ → Type 0
  Refuses = refuses memory

  abbrev Told : Type 0
  Told = FindsPlaces Refuses dialect s q limit bytes left found

  places_in_units : (units : List (List ℕ)) (b : List ℕ)
      → (heard_after (known_of first) nothing_heard (section_visits dialect units b)).ended
      ≡ places_in dialect (known_to s q) units
  places_in_units units b =
      of_section (known_of first) dialect units b ∙ ap (λ k. places_in dialect k units) known

  room_same : (units : List (List ℕ)) (b : List ℕ) (visits more : List Visit) → section_visits dialect units b ≡ visits ++ more
      → IsRefused Refuses (told_room (known_of first) visits)
      → IsRefused Refuses (1 + told_room (known_to s q) (section_visits dialect units b))
  room_same units b visits more cut r =
      let is = ap (λ k. told_room k (section_visits dialect units b)) (sym known) in
      refused_within Refuses (told_room (known_of first) visits)
      (1 + told_room (known_to s q) (section_visits dialect units b))
      (omega (arith, is, ap (told_room (known_of first)) cut, room_more (known_of first) visits more)) r

  of_ending : (units : List (List ℕ)) (b back : List ℕ) → EndsAs dialect limit bytes left units b back ended
      → Seeking refuses first new start now (section_visits dialect units b) → is_no_memory ended ≡ false → Told
  of_ending units b back ends stands whole = by (collected (section_visits dialect units b) whole stands) where
    by : IsCollected (IsRefused Refuses (told_room (known_of first) (section_visits dialect units b)))
        (places_told q.exact q.wanted (heard_after (known_of first) nothing_heard (section_visits dialect units b)).ended) ended found
        → Told
    by (inl (nothing, r)) =
        let cut = sym (append-nil (section_visits dialect units b)) in
        inl (
          nothing.0,
          nothing.1,
          inl (inr (
            units,
            b,
            back,
            room_same units b (section_visits dialect units b) [] cut r,
            inr (ended, ends),
          )),
        )
    by (inr (is, are)) =
        inr (
          not_refused ended found.end whole is,
          (
            units,
            b,
            back,
            subst (EndsAs dialect limit bytes left units b back) (sym is) ends,
            are ∙ ap (places_told q.exact q.wanted) (places_in_units units b),
          ),
        )

  of_refusal : ended ≡ Err fault.NoMemory
      → Ran (seek_story refuses) dialect limit bytes left first new start now (Err fault.NoMemory) → Told
  of_refusal is (units, b, back, inl (ends, settled)) =
      let nothing = refused (ap is_no_memory is) in
      inl (nothing.0, nothing.1, inr (units, b, back, ends))
  of_refusal is (units, b, back, inr (has, sound, stops)) =
      let nothing = refused (ap is_no_memory is) in
      let reason = subst (λ (m : M). IsRefused (refuses m) (told_room (known_of first) (stops.before ++ stops.visit ∷ []))) same
      (stops.reason.1 (q.wanted ∷ []) q.exact made_for) in
      let cut = stops.whole ∙ sym (append_assoc stops.before (stops.visit ∷ []) stops.more) in
      inl (
        nothing.0,
        nothing.1,
        inl (inr (
          units,
          b,
          back,
          room_same units b (stops.before ++ stops.visit ∷ []) stops.more cut reason,
          inl (has, sound),
        )),
      )

  of_fault : (f : RunFault) → ended ≡ Err f → is_no_memory {A = Summary} (Err f) ≡ false
      → (units : List (List ℕ)) × (b : List ℕ) × (back : List ℕ)
      × ((EndsAs dialect limit bytes left units b back (Err f)
      × Settled (seek_story refuses) first start now (section_visits dialect units b)
      (Seeking refuses first new start now))
      ⊎ (HasBegun dialect (take limit bytes) units b back
      × Sound dialect b
      × VisitorStops (seek_story refuses) first new start now (section_visits dialect units b) f))
      → Told
  of_fault f is whole (units, b, back, inl (ends, settled)) =
      of_ending units b back (subst (EndsAs dialect limit bytes left units b back) (sym is) ends) settled.tells
      (ap is_no_memory is ∙ whole)
  of_fault f is whole (units, b, back, inr (has, sound, stops)) =
      absurd (true≢false (ap (λ (x : RunFault). is_no_memory {A = Summary} (Err x)) (sym stops.reason.0) ∙ whole))

  of_ran : (e : Result Summary RunFault) → ended ≡ e → Ran (seek_story refuses) dialect limit bytes left first new start now e
      → Told
  of_ran (Ok summary) is (inl (units, ends, settled)) =
      of_ending units [] [] (subst (EndsAs dialect limit bytes left units [] []) (sym is) ends) settled.tells
      (ap is_no_memory is)
  of_ran (Ok summary) is (inr done) = absurd done.4.tells
  of_ran (Err (fault.Write out)) is (units, b, back, has, writes) = absurd (let below = writes.3.0 in omega arith)
  of_ran (Err fault.NoMemory) is ran = of_refusal is ran
  of_ran (Err (fault.Damage offset kind)) is ran = of_fault (fault.Damage offset kind) is refl ran
  of_ran (Err fault.Read) is ran = of_fault fault.Read is refl ran
  of_ran (Err fault.SectionTooLong) is ran = of_fault fault.SectionTooLong is refl ran
  of_ran (Err fault.NotFound) is ran = of_fault fault.NotFound is refl ran
  of_ran (Err fault.TwoSums) is ran = of_fault fault.TwoSums is refl ran
  of_ran (Err fault.NoUnit) is ran = of_fault fault.NoUnit is refl ran
  of_ran (Err (fault.ForeignUnit unit)) is ran = of_fault (fault.ForeignUnit unit) is refl ran
  of_ran (Err (fault.Emit unit f)) is ran = of_fault (fault.Emit unit f) is refl ran

  pub are_found : Ran (seek_story refuses) dialect limit bytes left first new start now ended → Told
  are_found ran = of_ran ended refl ran

-- ---- the whole, around damaged units

module _ {M : Type 0} (refuses : M → ℕ → Type 0) (dialect : Dialect) (s : Strings) (q : PlacesQuestion) (first new : LineSeeker M)
    (limit : ℕ) (bytes : List ℕ) (left start now : Option (List ℕ))
    (known : known_of first ≡ known_to s q) (memory : M) (same : first.memory.now ≡ memory)
    (made_for : IsMadeFor first (q.wanted ∷ []) q.exact)
    (ended : Result Survey RunFault) (found : FoundPlaces Survey)
    (refused : is_no_memory ended ≡ true → IsNothing found)
    (collected : (visits : List Visit) → is_no_memory ended ≡ false → Seeking refuses first new start now visits
    → IsCollected (IsRefused (refuses memory) (told_room (known_of first) visits))
    (places_told q.exact q.wanted (heard_after (known_of first) nothing_heard visits).ended) ended found) where
  abbrev RefusesAround : ℕ → Type 0
  RefusesAround = refuses memory

  abbrev ToldAround : Type 0
  ToldAround = FindsPlacesAround RefusesAround dialect s q limit bytes left found

  places_in_blocks : (blocks : List Block) (rest : Rest)
      → (heard_after (known_of first) nothing_heard (visits_around dialect blocks rest)).ended
      ≡ places_around dialect (known_to s q) blocks
  places_in_blocks blocks rest =
      of_around (known_of first) dialect blocks rest ∙ ap (λ k. places_around dialect k blocks) known

  around_room : (blocks : List Block) (rest : Rest) (visits more : List Visit) → visits_around dialect blocks rest ≡ visits ++ more
      → IsRefused RefusesAround (told_room (known_of first) visits)
      → IsRefused RefusesAround (1 + told_room (known_to s q) (visits_around dialect blocks rest))
  around_room blocks rest visits more cut r =
      let is = ap (λ k. told_room k (visits_around dialect blocks rest)) (sym known) in
      refused_within RefusesAround (told_room (known_of first) visits)
      (1 + told_room (known_to s q) (visits_around dialect blocks rest))
      (omega (arith, is, ap (told_room (known_of first)) cut, room_more (known_of first) visits more)) r

  around_ending : (blocks : List Block) (rest : Rest) → EndsAround dialect limit bytes left blocks rest ended
      → Seeking refuses first new start now (visits_around dialect blocks rest) → is_no_memory ended ≡ false → ToldAround
  around_ending blocks rest ends stands whole = by (collected (visits_around dialect blocks rest) whole stands) where
    by : IsCollected (IsRefused RefusesAround (told_room (known_of first) (visits_around dialect blocks rest)))
        (places_told q.exact q.wanted (heard_after (known_of first) nothing_heard (visits_around dialect blocks rest)).ended) ended found
        → ToldAround
    by (inl (nothing, r)) =
        let cut = sym (append-nil (visits_around dialect blocks rest)) in
        inl (
          nothing.0,
          nothing.1,
          inl (inr (
            blocks,
            rest,
            around_room blocks rest (visits_around dialect blocks rest) [] cut r,
            inr (ended, ends),
          )),
        )
    by (inr (is, are)) =
        inr (
          not_refused ended found.end whole is,
          (
            blocks,
            rest,
            subst (EndsAround dialect limit bytes left blocks rest) (sym is) ends,
            are ∙ ap (places_told q.exact q.wanted) (places_in_blocks blocks rest),
          ),
        )

  around_refusal : ended ≡ Err fault.NoMemory
      → RanAround (seek_story refuses) dialect limit bytes left first new start now (Err fault.NoMemory) → ToldAround
  around_refusal is (blocks, rest, inl (ends, settled)) =
      let nothing = refused (ap is_no_memory is) in
      inl (nothing.0, nothing.1, inr (blocks, rest, ends))
  around_refusal is (blocks, rest, inr (others, cut_to, sound, stops)) =
      let nothing = refused (ap is_no_memory is) in
      let reason = subst (λ (m : M). IsRefused (refuses m) (told_room (known_of first) (stops.before ++ stops.visit ∷ []))) same
      (stops.reason.1 (q.wanted ∷ []) q.exact made_for) in
      let cut = stops.whole ∙ sym (append_assoc stops.before (stops.visit ∷ []) stops.more) in
      inl (
        nothing.0,
        nothing.1,
        inl (inr (
          blocks,
          rest,
          around_room blocks rest (stops.before ++ stops.visit ∷ []) stops.more cut reason,
          inl (others, cut_to),
        )),
      )

  around_fault : (f : RunFault) → ended ≡ Err f → is_no_memory {A = Survey} (Err f) ≡ false
      → (blocks : List Block) × (rest : Rest)
      × ((EndsAround dialect limit bytes left blocks rest (Err f)
      × Settled (seek_story refuses) first start now (visits_around dialect blocks rest) (Seeking refuses first new start now))
      ⊎ ((others : List ℕ) × IsCutTo dialect (take limit bytes) blocks rest others × IsSoundSoFar dialect rest
      × VisitorStops (seek_story refuses) first new start now (visits_around dialect blocks rest) f))
      → ToldAround
  around_fault f is whole (blocks, rest, inl (ends, settled)) =
      around_ending blocks rest (subst (EndsAround dialect limit bytes left blocks rest) (sym is) ends) settled.tells
      (ap is_no_memory is ∙ whole)
  around_fault f is whole (blocks, rest, inr (others, cut_to, sound, stops)) =
      absurd (true≢false (ap (λ (x : RunFault). is_no_memory {A = Survey} (Err x)) (sym stops.reason.0) ∙ whole))

  around_ran : (e : Result Survey RunFault) → ended ≡ e
      → RanAround (seek_story refuses) dialect limit bytes left first new start now e → ToldAround
  around_ran (Ok survey) is (inl (blocks, rest, ends, settled)) =
      around_ending blocks rest (subst (EndsAround dialect limit bytes left blocks rest) (sym is) ends) settled.tells
      (ap is_no_memory is)
  around_ran (Ok survey) is (inr done) = absurd done.4.tells
  around_ran (Err (fault.Write out)) is (blocks, rest, others, cut_to, writes) = absurd (let below = writes.3.0 in omega arith)
  around_ran (Err fault.NoMemory) is ran = around_refusal is ran
  around_ran (Err (fault.Damage offset kind)) is ran = around_fault (fault.Damage offset kind) is refl ran
  around_ran (Err fault.Read) is ran = around_fault fault.Read is refl ran
  around_ran (Err fault.SectionTooLong) is ran = around_fault fault.SectionTooLong is refl ran
  around_ran (Err fault.NotFound) is ran = around_fault fault.NotFound is refl ran
  around_ran (Err fault.TwoSums) is ran = around_fault fault.TwoSums is refl ran
  around_ran (Err fault.NoUnit) is ran = around_fault fault.NoUnit is refl ran
  around_ran (Err (fault.ForeignUnit unit)) is ran = around_fault (fault.ForeignUnit unit) is refl ran
  around_ran (Err (fault.Emit unit f)) is ran = around_fault (fault.Emit unit f) is refl ran

  pub are_found_around : RanAround (seek_story refuses) dialect limit bytes left first new start now ended → ToldAround
  are_found_around ran = around_ran ended refl ran
