-- What `lines_around` answers and writes.
use Rattle.std.proofs.Common.{◌≡◌, ◌⊎◌, inl, inr, ℕ, ◌+◌, true, false, List, [], ◌∷◌, ◌++◌, length, take, Option, None, Result, Ok, Err}
use Rattle.std.proofs.Common.{arith, refl, sym, ap, ◌∙◌, subst, append_assoc, append-nil, true≢false}
use Rattle.std.specs.Prelude.{IfOk, IsOk, OnOk}
use Rattle.std.specs.Io.KnownBytes.{Appends, Keeps}
use Rattle.std.proofs.KnownBytes.{Appends-trans}
use Rattle.dl_head.specs.declared.dialect.Dialect.{Dialect}
use Rattle.dl_memory.specs.Refusals.{IsRefused}
use Rattle.dl_print.specs.declared.fault.WriteFault.{WriteFault}
use Rattle.dl_print.specs.ValueText.{Strings}
use Rattle.dl_sections.specs.declared.around.Survey.{Survey}
use Rattle.dl_sections.specs.declared.fault.RunFault.{RunFault}
use Rattle.dl_sections.specs.declared.fault.RunFault.TheVariants as fault
use Rattle.dl_sections.specs.Around.{Block, EndsAround, IsCutTo, IsSoundSoFar, RanAround, Rest, visits_around}
use Rattle.dl_sections.specs.Ending.{WhereWhole}
use Rattle.dl_sections.specs.Section.{Visit}
use Rattle.dl_sections.specs.Visiting.{Settled, VisitorStops}
use Rattle.dl_addr.specs.declared.question.FoundAround.{FoundAround}
use Rattle.dl_addr.specs.declared.question.WhichFound.{WhichFound}
use Rattle.dl_addr.specs.Printing.{told_around}
use Rattle.dl_addr.proofs.RoomLemmas.{refused_within}
use Rattle.dl_lines.specs.declared.question.LinesQuestion.{LinesQuestion}
use Rattle.dl_lines.specs.declared.seeker.LineSeeker.{LineSeeker}
use Rattle.dl_lines.specs.AroundCommands.{RefusesAround, TellsLinesAround, answer_lines_around, found_around, places_around}
use Rattle.dl_lines.specs.Commands.{known_by}
use Rattle.dl_lines.specs.Places.{CodePlace}
use Rattle.dl_lines.specs.Printing.{AnsweredAround, PrintsText, is_no_memory, wanted_found, wanted_text}
use Rattle.dl_lines.specs.Room.{told_room}
use Rattle.dl_lines.specs.Seeking.{IsMadeFor, Seeking, heard_after, known_of, nothing_heard, seek_story}
use Rattle.dl_lines.proofs.AnsweringLemmas.{keeps_nothing}
use Rattle.dl_lines.proofs.AroundLemmas.{of_around}
use Rattle.dl_lines.proofs.HeardLemmas.{room_more}

module _ {M : Type 0} (refuses : M → ℕ → Type 0) (dialect : Dialect) (s : Strings) (q : LinesQuestion) (first new : LineSeeker M)
    (limit : ℕ) (bytes : List ℕ) (left start mid now : Option (List ℕ))
    (known : known_of first ≡ known_by s q) (made_for : IsMadeFor first q.wanted.now q.exact)
    (ended : Result Survey RunFault) (result : Result FoundAround RunFault)
    (refused : is_no_memory ended ≡ true → (result ≡ Err fault.NoMemory) × (now ≡ mid))
    (answered : (visits : List Visit) → is_no_memory ended ≡ false → Seeking refuses first new start mid visits
    → AnsweredAround (IsRefused (refuses first.memory.now) (told_room (known_of first) visits)) mid now
    (wanted_text q.exact (heard_after (known_of first) nothing_heard visits).ended q.wanted.now)
    (wanted_found q.exact (heard_after (known_of first) nothing_heard visits).ended q.wanted.now) ended result) where
  abbrev Refuses : ℕ → Type 0
  Refuses = refuses first.memory.now

  abbrev Told : Result FoundAround RunFault → Type 0
  Told r = TellsLinesAround Refuses dialect s q limit bytes left start now r

  places_are : (blocks : List Block) (rest : Rest)
      → (heard_after (known_of first) nothing_heard (visits_around dialect blocks rest)).ended
      ≡ places_around dialect (known_by s q) blocks
  places_are blocks rest =
      of_around (known_of first) dialect blocks rest ∙ ap (λ k. places_around dialect k blocks) known

  room_same : (blocks : List Block) (rest : Rest) (visits more : List Visit) → visits_around dialect blocks rest ≡ visits ++ more
      → IsRefused Refuses (told_room (known_of first) visits) → RefusesAround Refuses dialect s q blocks rest
  room_same blocks rest visits more cut r =
      let is = ap (λ k. told_room k (visits_around dialect blocks rest)) (sym known) in
      refused_within Refuses (told_room (known_of first) visits)
      (length q.wanted.now + told_room (known_by s q) (visits_around dialect blocks rest))
      (omega (arith, is, ap (told_room (known_of first)) cut, room_more (known_of first) visits more)) r

  abbrev Printed : List Block → Result WhichFound WriteFault → Type 0
  Printed blocks printed = PrintsText mid now (answer_lines_around dialect s q blocks) (found_around dialect s q blocks) printed

  -- what is told where the reading ended so, and no memory was refused before
  of_ending : (blocks : List Block) (rest : Rest) → EndsAround dialect limit bytes left blocks rest ended
      → Seeking refuses first new start mid (visits_around dialect blocks rest) → Appends start mid []
      → is_no_memory ended ≡ false → Told result
  of_ending blocks rest ends stands out whole = by (answered (visits_around dialect blocks rest) whole stands) where
    lines_are : (printed : Result WhichFound WriteFault)
        → PrintsText mid now (wanted_text q.exact (heard_after (known_of first) nothing_heard (visits_around dialect blocks rest)).ended q.wanted.now)
        (wanted_found q.exact (heard_after (known_of first) nothing_heard (visits_around dialect blocks rest)).ended q.wanted.now) printed
        → Printed blocks printed
    lines_are printed p =
        subst (λ (l : List CodePlace). PrintsText mid now (wanted_text q.exact l q.wanted.now)
        (wanted_found q.exact l q.wanted.now) printed) (places_are blocks rest) p

    out_all : Appends mid now (answer_lines_around dialect s q blocks) → Appends start now (answer_lines_around dialect s q blocks)
    out_all more = Appends-trans start mid now [] (answer_lines_around dialect s q blocks) out more

    of_told : (e : Result Survey RunFault) (printed : Result WhichFound WriteFault) → ended ≡ e → Printed blocks printed
        → Told (told_around e printed)
    of_told e (Err lost) is p = (
      blocks,
      rest,
      ended,
      ends,
      (
        p.0,
        record {
          within = p.1.within;
          written = Appends-trans start mid now [] (take lost.out (answer_lines_around dialect s q blocks)) out p.1.written;
        },
      ),
    )
    of_told (Ok survey) (Ok all_found) is p =
        (blocks, rest, survey, subst (EndsAround dialect limit bytes left blocks rest) is ends, refl, p.0, out_all p.1)
    of_told (Err (fault.Write out)) (Ok all_found) is p = absurd (subst (EndsAround dialect limit bytes left blocks rest) is ends)
    of_told (Err fault.NoMemory) (Ok all_found) is p = absurd (true≢false (ap is_no_memory (sym is) ∙ whole))
    of_told (Err (fault.Damage offset kind)) (Ok all_found) is p =
        (blocks, rest, subst (EndsAround dialect limit bytes left blocks rest) is ends, out_all p.1)
    of_told (Err fault.Read) (Ok all_found) is p =
        (blocks, rest, subst (EndsAround dialect limit bytes left blocks rest) is ends, out_all p.1)
    of_told (Err fault.SectionTooLong) (Ok all_found) is p =
        (blocks, rest, subst (EndsAround dialect limit bytes left blocks rest) is ends, out_all p.1)
    of_told (Err fault.NotFound) (Ok all_found) is p =
        (blocks, rest, subst (EndsAround dialect limit bytes left blocks rest) is ends, out_all p.1)
    of_told (Err fault.TwoSums) (Ok all_found) is p =
        (blocks, rest, subst (EndsAround dialect limit bytes left blocks rest) is ends, out_all p.1)
    of_told (Err fault.NoUnit) (Ok all_found) is p =
        (blocks, rest, subst (EndsAround dialect limit bytes left blocks rest) is ends, out_all p.1)
    of_told (Err (fault.ForeignUnit unit)) (Ok all_found) is p =
        (blocks, rest, subst (EndsAround dialect limit bytes left blocks rest) is ends, out_all p.1)
    of_told (Err (fault.Emit unit f)) (Ok all_found) is p =
        (blocks, rest, subst (EndsAround dialect limit bytes left blocks rest) is ends, out_all p.1)

    by : AnsweredAround (IsRefused Refuses (told_room (known_of first) (visits_around dialect blocks rest))) mid now
        (wanted_text q.exact (heard_after (known_of first) nothing_heard (visits_around dialect blocks rest)).ended q.wanted.now)
        (wanted_found q.exact (heard_after (known_of first) nothing_heard (visits_around dialect blocks rest)).ended q.wanted.now)
        ended result → Told result
    by (inl (is, same, r)) =
        let told_none : Told (Err fault.NoMemory) = (
          keeps_nothing start now (subst (λ (o : Option (List ℕ)). Appends start o []) (sym same) out),
          inl (inr (
            blocks,
            rest,
            room_same blocks rest (visits_around dialect blocks rest) []
                (sym (append-nil (visits_around dialect blocks rest))) r,
            inr (ended, ends),
          )),
        ) in
        subst Told (sym is) told_none
    by (inr (printed, p, is)) = subst Told (sym is) (of_told ended printed refl (lines_are printed p))

  quiet : Keeps start mid → (now ≡ mid) → Keeps start now
  quiet keeps same = subst (Keeps start) (sym same) keeps

  -- memory was refused while it was read
  of_refusal : ended ≡ Err fault.NoMemory → RanAround (seek_story refuses) dialect limit bytes left first new start mid (Err fault.NoMemory)
      → Told result
  of_refusal is (blocks, rest, inl (ends, settled)) =
      let r = refused (ap is_no_memory is) in
      let told_none : Told (Err fault.NoMemory) = (
        quiet (keeps_nothing start mid settled.out) r.1,
        inr (blocks, rest, ends),
      ) in
      subst Told (sym r.0) told_none
  of_refusal is (blocks, rest, inr (others, cut, sound, stops)) =
      let r = refused (ap is_no_memory is) in
      let told_none : Told (Err fault.NoMemory) = (
        quiet (keeps_nothing start mid stops.out) r.1,
        inl (inr (
          blocks,
          rest,
          room_same blocks rest (stops.before ++ stops.visit ∷ []) stops.more
              (stops.whole ∙ sym (append_assoc stops.before (stops.visit ∷ []) stops.more))
              (stops.reason.1 q.wanted.now q.exact made_for),
          inl (others, cut),
        )),
      ) in
      subst Told (sym r.0) told_none

  -- it ended with another fault
  of_fault : (f : RunFault) → ended ≡ Err f → is_no_memory {A = Survey} (Err f) ≡ false
      → (blocks : List Block) × (rest : Rest)
      × ((EndsAround dialect limit bytes left blocks rest (Err f)
      × Settled (seek_story refuses) first start mid (visits_around dialect blocks rest) (Seeking refuses first new start mid))
      ⊎ ((others : List ℕ) × IsCutTo dialect (take limit bytes) blocks rest others × IsSoundSoFar dialect rest
      × VisitorStops (seek_story refuses) first new start mid (visits_around dialect blocks rest) f))
      → Told result
  of_fault f is whole (blocks, rest, inl (ends, settled)) =
      of_ending blocks rest (subst (EndsAround dialect limit bytes left blocks rest) (sym is) ends) settled.tells settled.out
      (ap is_no_memory is ∙ whole)
  of_fault f is whole (blocks, rest, inr (others, cut, sound, stops)) =
      absurd (true≢false (ap (λ (x : RunFault). is_no_memory {A = Survey} (Err x)) (sym stops.reason.0) ∙ whole))

  of_ran : (e : Result Survey RunFault) → ended ≡ e → RanAround (seek_story refuses) dialect limit bytes left first new start mid e
      → Told result
  of_ran (Ok survey) is (inl (blocks, rest, ends, settled)) =
      of_ending blocks rest (subst (EndsAround dialect limit bytes left blocks rest) (sym is) ends) settled.tells settled.out
      (ap is_no_memory is)
  of_ran (Ok survey) is (inr done) = absurd done.4.tells
  of_ran (Err (fault.Write out)) is (blocks, rest, others, cut, writes) = absurd (let below = writes.3.0 in omega arith)
  of_ran (Err fault.NoMemory) is ran = of_refusal is ran
  of_ran (Err (fault.Damage offset kind)) is ran = of_fault (fault.Damage offset kind) is refl ran
  of_ran (Err fault.Read) is ran = of_fault fault.Read is refl ran
  of_ran (Err fault.SectionTooLong) is ran = of_fault fault.SectionTooLong is refl ran
  of_ran (Err fault.NotFound) is ran = of_fault fault.NotFound is refl ran
  of_ran (Err fault.TwoSums) is ran = of_fault fault.TwoSums is refl ran
  of_ran (Err fault.NoUnit) is ran = of_fault fault.NoUnit is refl ran
  of_ran (Err (fault.ForeignUnit unit)) is ran = of_fault (fault.ForeignUnit unit) is refl ran
  of_ran (Err (fault.Emit unit f)) is ran = of_fault (fault.Emit unit f) is refl ran

  pub is_told_around : RanAround (seek_story refuses) dialect limit bytes left first new start mid ended → Told result
  is_told_around ran = of_ran ended refl ran

pub over_where : (P : Type 0) (result : Result FoundAround RunFault) (ended : Result Survey RunFault) → OnOk result (IsOk ended)
    → IfOk result (λ around. IfOk ended (λ survey. around.damaged ≡ survey.damaged)) → WhereWhole P ended
    → IfOk result (λ around. around.damaged ≡ None → P)
over_where P (Err e) ended ok same over = tt
over_where P (Ok around) (Ok survey) ok same over = λ none. over (sym same ∙ none)
over_where P (Ok around) (Err f) ok same over = absurd (true≢false (sym ok))
