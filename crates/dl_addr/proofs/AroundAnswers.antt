-- What `addr_around` answers and writes.
use Rattle.std.proofs.Common.{◌≡◌, inl, inr, ℕ, List, [], ◌∷◌, ◌++◌, map, take, Option, Some, None, Result, Ok}
use Rattle.std.proofs.Common.{Err, arith, refl, sym, ap, ◌∙◌, subst, append_assoc}
use Rattle.std.specs.Prelude.{Bool, if◌then◌else◌, is_some}
use Rattle.std.specs.Io.KnownBytes.{Appends}
use Rattle.std.specs.List.{AllByRecursion, list_all}
use Rattle.std.specs.Option.{option_and_then}
use Rattle.std.proofs.KnownBytes.{Appends-trans}
use Rattle.std.proofs.lemmas.Grind.{flat_map-append}
use Rattle.dl_head.specs.declared.dialect.Dialect.{Dialect}
use Rattle.dl_look.specs.declared.asked.Asked.{Asked}
use Rattle.dl_look.specs.declared.place.Place.{Place}
use Rattle.dl_look.specs.Asked.{looked_up, place_of}
use Rattle.dl_print.specs.declared.fault.WriteFault.{WriteFault}
use Rattle.dl_print.specs.Output.{TellsOut}
use Rattle.dl_print.specs.ValueText.{Strings}
use Rattle.dl_sections.specs.declared.around.Survey.{Survey}
use Rattle.dl_sections.specs.declared.fault.RunFault.{RunFault}
use Rattle.dl_sections.specs.declared.fault.RunFault.TheVariants as fault
use Rattle.dl_sections.specs.Around.{Block, whole, IsBlock, block_bytes, bytes_of, units_around, Rest, begun, rest_bytes}
use Rattle.dl_sections.specs.Around.{IsCutTo, RanAround, visits_around}
use Rattle.dl_sections.specs.Section.{Visit, of_end}
use Rattle.dl_sections.specs.Visiting.{Settled, VisitorStops}
use Rattle.dl_sections.proofs.Fronts.{all_front}
use Rattle.dl_addr.specs.declared.locating.Locator.{Locator}
use Rattle.dl_addr.specs.declared.question.WhichFound.{WhichFound}
use Rattle.dl_addr.specs.declared.question.WhichFound.TheVariants as found
use Rattle.dl_addr.specs.declared.question.Question.{Question}
use Rattle.dl_addr.specs.AroundCommands.{EndsAsked, LocatesAround, answer_around, lines_around, located_around}
use Rattle.dl_addr.specs.Commands.{found_in, is_answered}
use Rattle.dl_addr.specs.Knowing.{Knows}
use Rattle.dl_addr.specs.Locating.{IsMadeFor, Locating, locate_story, located_by}
use Rattle.dl_addr.specs.Locations.{located}
use Rattle.dl_addr.specs.Printing.{PrintsAll, answer_for, seen_lines, told_around}
use Rattle.dl_addr.proofs.AnsweringLemmas.{all_same, asked_room, ends_same, found_same, header_few, lines_same, live}
use Rattle.dl_addr.proofs.AnsweringLemmas.{live_is, was_asked}
use Rattle.dl_addr.proofs.AroundEnds.{located_of_around, some_along, splits_around}

-- bytes that are cut into blocks are cut after some of them
cut_after : (dialect : Dialect) (s : List ℕ) (blocks front after : List Block) (rest : Rest) (others : List ℕ)
    → blocks ≡ front ++ after → IsCutTo dialect s blocks rest others
    → IsCutTo dialect s front (begun []) (bytes_of after ++ (rest_bytes rest ++ others))
cut_after dialect s blocks front after rest others all cut = record {
  whole =
      cut.whole
      ∙ ap (λ (l : List Block). bytes_of l ++ (rest_bytes rest ++ others)) all
      ∙ ap (λ (l : List ℕ). l ++ (rest_bytes rest ++ others)) (flat_map-append block_bytes front after)
      ∙ append_assoc (bytes_of front) (bytes_of after) (rest_bytes rest ++ others);
  each = all_front (IsBlock dialect) front after (subst (AllByRecursion (IsBlock dialect)) all cut.each);
  front = λ n e. omega arith;
}

module _ {M : Type 0} (dialect : Dialect) (q : Question) (s : Strings) (first : Locator M) (knows : Knows first q s) where
  abbrev code : ℕ → Bool
  code = live dialect q s first knows

  some_asked : (blocks : List Block) (o : Option Place)
      → is_some (option_and_then (located_around dialect code blocks) o)
      ≡ is_some (option_and_then (located dialect code (units_around blocks)) o)
  some_asked blocks None = refl
  some_asked blocks (Some x) = some_along dialect code x 0 0 blocks

  -- whether each address has an answer
  found_around : (blocks : List Block)
      → (if list_all (λ a. is_answered a (is_some (answer_around dialect q blocks a))) q.asked.now then found.All
      else found.NotAll) ≡ found_in dialect q (units_around blocks)
  found_around blocks =
      ap (λ (b : Bool). if b then found.All else found.NotAll)
      (all_same _ _ (λ (a : Asked). ap (is_answered a) (some_asked blocks (place_of q.base a))) q.asked.now)

  module _ (limit : ℕ) (bytes : List ℕ) (left : Option (List ℕ)) (new : Locator M) (start mid : Option (List ℕ))
      (made : IsMadeFor first (map (looked_up q.base) q.asked.now)) (refuses : M → ℕ → Type 0) where
    -- of the memory that it was made with
    abbrev Refuses : ℕ → Type 0
    Refuses = refuses first.memory.now

    -- where it ended, the locator stands for visits in which the blocks answer
    record Reads (ending : Result Survey RunFault) : Type 0 where
      pub blocks : List Block
      pub rest : Rest
      pub visits : List Visit
      pub ends : EndsAsked Refuses dialect limit bytes left q blocks rest ending
      pub stands : Locating first new start mid visits
      pub same : (x : Place) → located_by first x visits ≡ located_around dialect code blocks x
      pub out : Appends start mid []

    -- it was told all of them
    read_all : (ending : Result Survey RunFault) (blocks : List Block) (rest : Rest)
        → EndsAsked Refuses dialect limit bytes left q blocks rest ending
        → Settled (locate_story refuses) first start mid (visits_around dialect blocks rest) (Locating first new start mid)
        → Reads ending
    read_all ending blocks rest ends settled = record {
      blocks = blocks;
      rest = rest;
      visits = visits_around dialect blocks rest;
      ends = ends;
      stands = settled.tells;
      same =
          λ x. live_is dialect q s first knows x (visits_around dialect blocks rest)
          (λ l. located_around dialect l blocks x)
          (λ l. located_of_around dialect l x first.unit blocks rest);
      out = settled.out;
    }

    -- it stopped at the end of a unit
    stopped : (f : RunFault) (blocks : List Block) (rest : Rest) (others : List ℕ)
        → IsCutTo dialect (take limit bytes) blocks rest others
        → VisitorStops (locate_story refuses) first new start mid (visits_around dialect blocks rest) f
        → (f ≡ fault.NoMemory) × Reads (Err fault.NoMemory)
    stopped f blocks rest others is_cut stops =
        let r = stops.reason in
        let last = ends_same stops.before r.before stops.visit (of_end r.h) r.whole in
        let cut : visits_around dialect blocks rest ≡ stops.before ++ of_end r.h ∷ stops.more =
        stops.whole ∙ ap (λ (v : Visit). stops.before ++ v ∷ stops.more) last.1 in
        let split = splits_around dialect first.unit blocks rest stops.before r.h stops.more cut in
        let with_u = split.front ++ whole split.u ∷ [] in
        let a = r.answers (map (looked_up q.base) q.asked.now) made in
        let asked = was_asked q a.0 a.1 a.2 in
        let before_is : (x : Place) → located_by first x stops.before ≡ located_around dialect code split.front x =
        λ x. live_is dialect q s first knows x stops.before (λ l. located_around dialect l split.front x)
        (λ l. split.located_before l x) in
        let after_is : (x : Place)
        → located_by first x (stops.before ++ of_end r.h ∷ []) ≡ located_around dialect code with_u x =
        λ x. live_is dialect q s first knows x (stops.before ++ of_end r.h ∷ [])
        (λ l. located_around dialect l with_u x) (λ l. split.located_later l x) in
        let all : blocks ≡ with_u ++ split.after =
        split.cut ∙ sym (append_assoc split.front (whole split.u ∷ []) split.after) in (
          r.is,
          record {
            blocks = split.front;
            rest = begun split.u;
            visits = stops.before;
            ends = inr (
              split.u,
              bytes_of split.after ++ (rest_bytes rest ++ others),
              refl,
              cut_after dialect (take limit bytes) blocks with_u split.after rest others all is_cut,
              record {
                a = asked.0;
                number = a.0;
                is_asked = asked.1;
                not_before =
                    ap (located_around dialect code split.front) asked.2 ∙ sym (before_is a.1)
                    ∙ ap (located_by first a.1) last.0 ∙ a.3;
                answers =
                    ap is_some (ap (located_around dialect code with_u) asked.2 ∙ sym (after_is a.1)
                    ∙ ap (λ (v : Visit). located_by first a.1 (stops.before ++ v ∷ [])) (sym last.1)) ∙ a.4;
              },
              asked_room q split.u r.h refuses first.memory.now
                  (r.refused (map (looked_up q.base) q.asked.now) made) (header_few dialect split.u r.h split.header),
            );
            stands = stops.tells;
            same = before_is;
            out = stops.out;
          },
        )

    reads : (ending : Result Survey RunFault)
        → RanAround (locate_story refuses) dialect limit bytes left first new start mid ending → Reads ending
    reads (Ok survey) (inl (blocks, rest, ends, settled)) = read_all (Ok survey) blocks rest ends settled
    reads (Ok survey) (inr done) = absurd done.4.tells
    reads (Err (fault.Write out)) (blocks, rest, others, is_cut, writes) =
        absurd (let below = writes.3.0 in omega arith)
    reads (Err fault.NoMemory) (blocks, rest, inl (ends, settled)) = read_all _ blocks rest (inl ends) settled
    reads (Err fault.NoMemory) (blocks, rest, inr (others, is_cut, sound, stops)) =
        (stopped fault.NoMemory blocks rest others is_cut stops).1
    reads (Err fault.Read) (blocks, rest, inl (ends, settled)) = read_all _ blocks rest ends settled
    reads (Err fault.Read) (blocks, rest, inr (others, is_cut, sound, stops)) =
        absurd (let e = (stopped _ blocks rest others is_cut stops).0 in cc)
    reads (Err fault.SectionTooLong) (blocks, rest, inl (ends, settled)) = read_all _ blocks rest ends settled
    reads (Err fault.SectionTooLong) (blocks, rest, inr (others, is_cut, sound, stops)) =
        absurd (let e = (stopped _ blocks rest others is_cut stops).0 in cc)
    reads (Err (fault.Damage offset kind)) (blocks, rest, inl (ends, settled)) = absurd ends
    reads (Err (fault.Damage offset kind)) (blocks, rest, inr (others, is_cut, sound, stops)) =
        absurd (let e = (stopped _ blocks rest others is_cut stops).0 in cc)
    reads (Err fault.NotFound) (blocks, rest, inl (ends, settled)) = absurd ends
    reads (Err fault.TwoSums) (blocks, rest, inl (ends, settled)) = absurd ends
    reads (Err fault.NoUnit) (blocks, rest, inl (ends, settled)) = absurd ends
    reads (Err fault.NotFound) (blocks, rest, inr (others, is_cut, sound, stops)) =
        absurd (let e = (stopped _ blocks rest others is_cut stops).0 in cc)
    reads (Err fault.TwoSums) (blocks, rest, inr (others, is_cut, sound, stops)) =
        absurd (let e = (stopped _ blocks rest others is_cut stops).0 in cc)
    reads (Err fault.NoUnit) (blocks, rest, inr (others, is_cut, sound, stops)) =
        absurd (let e = (stopped _ blocks rest others is_cut stops).0 in cc)
    reads (Err (fault.ForeignUnit unit)) (blocks, rest, inl (ends, settled)) = absurd ends
    reads (Err (fault.ForeignUnit unit)) (blocks, rest, inr (others, is_cut, sound, stops)) =
        absurd (let e = (stopped _ blocks rest others is_cut stops).0 in cc)
    reads (Err (fault.Emit unit f)) (blocks, rest, inl (ends, settled)) = absurd ends
    reads (Err (fault.Emit unit f)) (blocks, rest, inr (others, is_cut, sound, stops)) =
        absurd (let e = (stopped _ blocks rest others is_cut stops).0 in cc)

    -- ---- what is printed then

    module _ (now : Option (List ℕ)) where
      abbrev Prints : Result WhichFound WriteFault → Type 0
      Prints printed =
          (visits : List Visit) → Locating first new start mid visits
          → PrintsAll mid now q (answer_for first visits q.base) printed

      lines_are : (ending : Result Survey RunFault) (r : Reads ending)
          → seen_lines q.style (answer_for first r.visits q.base) q.asked.now ≡ lines_around dialect s q r.blocks
      lines_are ending r = lines_same dialect q s first knows r.visits (located_around dialect code r.blocks) r.same

      lines_out : (ending : Result Survey RunFault) (r : Reads ending) (all_found : WhichFound) → Prints (Ok all_found)
          → Appends start now (lines_around dialect s q r.blocks)
      lines_out ending r all_found prints =
          Appends-trans start mid now [] (lines_around dialect s q r.blocks) r.out
          (subst (Appends mid now) (lines_are ending r) (prints r.visits r.stands).1)

      fault_told : (f : RunFault) (all_found : WhichFound)
          → RanAround (locate_story refuses) dialect limit bytes left first new start mid (Err f) → Prints (Ok all_found)
          → LocatesAround Refuses dialect s q limit bytes left start now (Err f)
      fault_told f all_found ran prints = by f (reads (Err f) ran) where
        by : (f : RunFault) → Reads (Err f) → LocatesAround Refuses dialect s q limit bytes left start now (Err f)
        by (fault.Write out) r = absurd r.ends
        by fault.NoMemory r = inr (r.blocks, r.rest, r.ends, lines_out _ r all_found prints)
        by fault.Read r = (r.blocks, r.rest, r.ends, lines_out _ r all_found prints)
        by fault.SectionTooLong r = (r.blocks, r.rest, r.ends, lines_out _ r all_found prints)
        by (fault.Damage offset kind) r = absurd r.ends
        by fault.NotFound r = absurd r.ends
        by fault.TwoSums r = absurd r.ends
        by fault.NoUnit r = absurd r.ends
        by (fault.ForeignUnit unit) r = absurd r.ends
        by (fault.Emit unit e) r = absurd r.ends

      pub is_told_around : (ending : Result Survey RunFault) (printed : Result WhichFound WriteFault)
          → RanAround (locate_story refuses) dialect limit bytes left first new start mid ending → Prints printed
          → LocatesAround Refuses dialect s q limit bytes left start now (told_around ending printed)
      is_told_around ending (Err lost) ran prints =
          let r = reads ending ran in
          let t = subst (λ (l : List ℕ). TellsOut mid now l lost) (lines_are ending r) (prints r.visits r.stands) in (
            r.blocks,
            r.rest,
            ending,
            r.ends,
            (
              t.0,
              record {
                within = t.1.within;
                written =
                    Appends-trans start mid now [] (take lost.out (lines_around dialect s q r.blocks)) r.out
                    t.1.written;
              },
            ),
          )
      is_told_around (Ok survey) (Ok all_found) ran prints =
          let r = reads (Ok survey) ran in (
            r.blocks,
            r.rest,
            survey,
            r.ends,
            refl,
            (prints r.visits r.stands).0
                ∙ found_same dialect q s first knows r.visits (located_around dialect code r.blocks) r.same
                ∙ found_around r.blocks,
            lines_out (Ok survey) r all_found prints,
          )
      is_told_around (Err f) (Ok all_found) ran prints = fault_told f all_found ran prints
