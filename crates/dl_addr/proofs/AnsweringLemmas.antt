-- What `addr` answers and writes.
use Rattle.std.proofs.Common.{◌≡◌, inl, inr, ℕ, Bool, true, false, List, [], ◌∷◌, ◌++◌, length, flat_map, map, take, slice_get}
use Rattle.std.proofs.Common.{Option, Some, None, Result, Ok, Err, arith, refl, sym, ap, ap₂, ◌∙◌, subst, append_assoc}
use Rattle.std.proofs.Common.{◌≤◌, length-append}
use Rattle.std.proofs.lemmas.List.{length-map}
use Rattle.std.specs.Prelude.{if◌then◌else◌, ◌&&◌, is_some, option_map}
use Rattle.std.specs.Io.KnownBytes.{Appends}
use Rattle.std.specs.List.{concat, list_all}
use Rattle.std.specs.Option.{option_and_then, option_copied, option_map_or}
use Rattle.std.proofs.KnownBytes.{Appends-trans}
use Rattle.std.proofs.lemmas.Option.{slice_get-map}
use Rattle.dl_head.specs.declared.dialect.Dialect.{Dialect}
use Rattle.dl_field.specs.HeaderData.{HeaderData}
use Rattle.dl_memory.specs.Refusals.{IsRefused}
use Rattle.dl_rows.specs.declared.row.Row.{Row}
use Rattle.dl_look.specs.declared.place.Place.{Place}
use Rattle.dl_print.specs.declared.fault.WriteFault.{WriteFault}
use Rattle.dl_print.specs.declared.summary.Summary.{Summary}
use Rattle.dl_print.specs.Output.{TellsOut}
use Rattle.dl_print.specs.ValueText.{Strings, strings_of}
use Rattle.dl_sections.specs.declared.fault.RunFault.{RunFault}
use Rattle.dl_sections.specs.declared.fault.RunFault.TheVariants as fault
use Rattle.dl_sections.specs.Section.{Visit, HasBegun, EndsAs, header_of, of_end, section_visits}
use Rattle.dl_sections.specs.Visiting.{Ran, VisitorStops}
use Rattle.dl_sections.proofs.SectionLemmas.{has_front}
use Rattle.dl_look.specs.declared.asked.Asked.{Asked}
use Rattle.dl_addr.specs.declared.locating.Locator.{Locator}
use Rattle.dl_addr.specs.declared.question.WhichFound.{WhichFound}
use Rattle.dl_addr.specs.declared.question.WhichFound.TheVariants as found
use Rattle.dl_addr.specs.declared.question.Question.{Question}
use Rattle.dl_dirs.specs.declared.compilation.CompilationDirectories.{CompilationDirectories}
use Rattle.dl_addr.specs.declared.style.AnswerForm.{AnswerForm}
use Rattle.dl_addr.specs.declared.style.AnswerForm.TheVariants as forms
use Rattle.dl_addr.specs.declared.style.Style.{Style}
use Rattle.dl_addr.specs.Answers.{located_seen}
use Rattle.dl_look.specs.Asked.{looked_up, place_of}
use Rattle.dl_addr.specs.Code.{is_code}
use Rattle.dl_dirs.specs.Compilation.{directory_by}
use Rattle.dl_addr.specs.Commands.{Ends, Locates, answer_lines, answers_room, is_answered}
use Rattle.dl_addr.specs.Knowing.{Knows}
use Rattle.dl_addr.specs.Locating.{IsMadeFor, Locating, code_of, locate_story, located_after, located_by}
use Rattle.dl_addr.specs.Location.{location_at}
use Rattle.dl_addr.specs.Locations.{Located, asked_line, asked_text, compilation_directory, located, location_of}
use Rattle.dl_addr.specs.Locations.{location_text, row_text}
use Rattle.dl_path.specs.Paths.{compiled_in, path_of}
use Rattle.dl_path.specs.Shown.{basename}
use Rattle.dl_addr.specs.Printing.{PrintsAll, answer_for, found_by, named_text, seen_lines, seen_text, told}
use Rattle.dl_addr.specs.Shown.{no_path_text, path_text, text_in}
use Rattle.dl_addr.specs.Room.{cells_of, paths_room}
use Rattle.dl_addr.specs.Texts.{named, printed}
use Rattle.dl_addr.proofs.EndLemmas.{splits_section}
use Rattle.dl_addr.proofs.LocatedLemmas.{located_of_section}
use Rattle.dl_addr.proofs.HeaderRoom.{cells_few}

-- ---- lists

pub flat_same : {A B : Type 0} (f g : A → List B) → ((a : A) → f a ≡ g a) → (xs : List A)
    → flat_map f xs ≡ flat_map g xs
flat_same f g same [] = refl
flat_same f g same (x ∷ xs) = ap₂ (λ (a b : List _). a ++ b) (same x) (flat_same f g same xs)

pub all_same : {A : Type 0} (f g : A → Bool) → ((a : A) → f a ≡ g a) → (xs : List A) → list_all f xs ≡ list_all g xs
all_same f g same [] = refl
all_same f g same (x ∷ xs) = ap₂ (λ (a b : Bool). a && b) (same x) (all_same f g same xs)

pub ends_same : (xs ys : List Visit) (x y : Visit) → xs ++ x ∷ [] ≡ ys ++ y ∷ [] → (xs ≡ ys) × (x ≡ y)
ends_same [] [] x y e = (refl, cc)
ends_same [] (b ∷ ys) x y e = absurd (omega (arith, ap length e, length-append ys (y ∷ [])))
ends_same (a ∷ xs) [] x y e = absurd (omega (arith, ap length e, length-append xs (x ∷ [])))
ends_same (a ∷ xs) (b ∷ ys) x y e = let same = ends_same xs ys x y cc in (cc, same.1)

-- a place that is looked up was asked for
pub was_asked : (q : Question) (number : ℕ) (x : Place) → slice_get (map (looked_up q.base) q.asked.now) number ≡ Some x
    → (a : Asked) × (slice_get q.asked.now number ≡ Some a) × (looked_up q.base a ≡ x)
was_asked q number x at = by (slice_get q.asked.now number) refl where
  by : (o : Option Asked) → slice_get q.asked.now number ≡ o → (a : Asked) × (slice_get q.asked.now number ≡ Some a)
      × (looked_up q.base a ≡ x)
  by None is =
      absurd (Rattle.dl_addr.proofs.TextLemmas.none_is_some (sym (ap (option_map (looked_up q.base)) is)
      ∙ sym (slice_get-map (looked_up q.base) q.asked.now number) ∙ at))
  by (Some a) is = (
    a,
    is,
    Rattle.dl_addr.proofs.TextLemmas.some_same (looked_up q.base a) x
        (sym (ap (option_map (looked_up q.base)) is) ∙ sym (slice_get-map (looked_up q.base) q.asked.now number)
        ∙ at),
  )

-- ---- for how many items memory is refused

-- the header of a unit has no more cells than the unit has bytes
pub header_few : (dialect : Dialect) (u : List ℕ) (h : Option HeaderData) → h ≡ header_of dialect u → cells_of h ≤ length u
header_few dialect u h is = rw is (cells_few dialect u)

pub asked_room : {M : Type 0} (q : Question) (u : List ℕ) (h : Option HeaderData) (refuses : M → ℕ → Type 0) (memory : M)
    → IsRefused (refuses memory) (paths_room (length (map (looked_up q.base) q.asked.now)) h) → cells_of h ≤ length u
    → IsRefused (refuses memory) (answers_room q u)
asked_room q u h refuses memory (n, within, refused) few =
    (n, omega (arith, within, few, length-map q.asked.now (looked_up q.base)), refused)

-- ---- the answers of a locator are those of the units

-- a path as it is kept, printed
text_by : (form : AnswerForm) (basenames : Bool) (directory path : Option (List ℕ))
    → named_text form (if basenames then option_map (λ p. if basenames then basename (compiled_in directory p) else p) path
    else option_map (compiled_in directory)
    (option_map (λ p. if basenames then basename (compiled_in directory p) else p) path))
    ≡ option_map_or (λ p. text_in form (if basenames then basename p else p)) (option_map (compiled_in directory) path)
    (no_path_text form)
text_by form true directory None = refl
text_by form true directory (Some path) = refl
text_by form false directory None = refl
text_by form false directory (Some path) = refl

-- the path tells nothing but its own text
pub same_row : (form : AnswerForm) (text : List ℕ) (r : Row) (unit : ℕ) (path path' : Option (List ℕ))
    → row_text form text (location_at r unit path) ≡ row_text form text (location_at r unit path')
same_row forms.Location text r unit path path' = refl
same_row forms.AddressAndLocation text r unit path path' = refl
same_row forms.Json text r unit path path' = refl

path_text_is : (style : Style) (path : Option (List ℕ))
    → option_map_or (λ p. text_in style.form (if style.basenames then basename p else p)) path (no_path_text style.form)
    ≡ path_text style path
path_text_is style None = refl
path_text_is style (Some path) = refl

module _ {M : Type 0} (dialect : Dialect) (q : Question) (s : Strings) (first : Locator M) (knows : Knows first q s) where
  abbrev pub live : ℕ → Bool
  live = is_code (option_copied q.code)

  pub live_is : (x : Place) (visits : List Visit) (look_up : (ℕ → Bool) → Option Located)
      → ((l : ℕ → Bool) → located_after l x [] first.unit visits ≡ look_up l)
      → located_by first x visits ≡ look_up live
  live_is x visits look_up is =
      is (code_of first) ∙ ap (λ code. look_up (is_code (option_copied code))) knows.code

  text_named : (directory path : Option (List ℕ))
      → named_text q.style.form (printed q.style directory (named q.style directory path))
      ≡ path_text q.style (option_map (compiled_in directory) path)
  text_named directory path =
      text_by q.style.form q.style.basenames directory path
      ∙ path_text_is q.style (option_map (compiled_in directory) path)

  text_seen : (o : Option Located)
      → seen_text q.style.form (option_map (located_seen first) o)
      ≡ location_text q.style (option_map (location_of (directory_by q.directories) s) o)
  text_seen None = refl
  text_seen (Some l) =
      let path = path_of (strings_of first.strings.now) l.header l.row.file in
      let directory = compilation_directory (directory_by q.directories) l in
      let told = location_of (directory_by q.directories) s l in
      let seen = located_seen first l in
      same_row q.style.form (named_text q.style.form seen.path) l.row l.unit seen.path told.path
      ∙ ap₂ (λ (st : Style) (d : CompilationDirectories). row_text q.style.form
      (named_text q.style.form (printed st (compilation_directory (directory_by d) l)
      (named st (compilation_directory (directory_by d) l) path))) told)
      knows.style knows.directories
      ∙ ap (λ (w : List ℕ). row_text q.style.form w told) (text_named directory path)
      ∙ ap (λ (ss : Strings). row_text q.style.form
      (path_text q.style (option_map (compiled_in directory) (path_of ss l.header l.row.file))) told) knows.strings

  -- look_up: what they answer for a place
  module _ (visits : List Visit) (look_up : Place → Option Located)
      (is : (x : Place) → located_by first x visits ≡ look_up x) where
    abbrev answer : Asked → Option Located
    answer a = option_and_then look_up (place_of q.base a)

    place_same : (o : Option Place)
        → option_and_then (λ x. located_by first x visits) o ≡ option_and_then look_up o
    place_same None = refl
    place_same (Some x) = is x

    answer_same : (a : Asked)
        → answer_for first visits q.base a ≡ option_map (located_seen first) (answer a)
    answer_same a = ap (option_map (located_seen first)) (place_same (place_of q.base a))

    pub lines_same : seen_lines q.style (answer_for first visits q.base) q.asked.now
        ≡ flat_map (λ a. asked_line q.style (directory_by q.directories) s a (answer a)) q.asked.now
    lines_same =
        flat_same _ _ (λ (a : Asked). ap (λ (t : List ℕ). (asked_text q.style.form (option_copied q.style.section)
        a ++ t) ++ 10 ∷ [])
        (ap (seen_text q.style.form) (answer_same a) ∙ text_seen (answer a))) q.asked.now

    some_same : (o : Option Located) → is_some (option_map (located_seen first) o) ≡ is_some o
    some_same None = refl
    some_same (Some l) = refl

    pub found_same : found_by (answer_for first visits q.base) q.asked.now
        ≡ (if list_all (λ a. is_answered a (is_some (answer a))) q.asked.now then found.All else found.NotAll)
    found_same =
        ap (λ (b : Bool). if b then found.All else found.NotAll)
        (all_same _ _ (λ (a : Asked). ap (is_answered a) (ap is_some (answer_same a)
        ∙ some_same (answer a))) q.asked.now)

  -- ---- the reading

  module _ (limit : ℕ) (bytes : List ℕ) (left : Option (List ℕ)) (new : Locator M) (start mid : Option (List ℕ))
      (made : IsMadeFor first (map (looked_up q.base) q.asked.now)) (refuses : M → ℕ → Type 0) where
    -- of the memory that it was made with
    abbrev pub Refuses : ℕ → Type 0
    Refuses = refuses first.memory.now

    -- where it ended, the locator stands for the visits that the units are told
    pub record Reads (ending : Result Summary RunFault) : Type 0 where
      pub units : List (List ℕ)
      pub b : List ℕ
      pub back : List ℕ
      pub visits : List Visit
      pub ends : Ends Refuses dialect limit bytes left q units b back ending
      pub stands : Locating first new start mid visits
      pub same : (x : Place) → located_by first x visits ≡ located dialect live units x
      pub out : Appends start mid []

    section_same : (units : List (List ℕ)) (b : List ℕ) (x : Place)
        → located_by first x (section_visits dialect units b) ≡ located dialect live units x
    section_same units b x =
        live_is x (section_visits dialect units b) (λ l. located dialect l units x)
        (λ l. located_of_section l x dialect first.unit units b)

    pub reads_all : (summary : Summary) → Ran (locate_story refuses) dialect limit bytes left first new start mid (Ok summary)
        → (units : List (List ℕ)) × EndsAs dialect limit bytes left units [] [] (Ok summary)
        × Locating first new start mid (section_visits dialect units [])
        × ((x : Place) → located_by first x (section_visits dialect units []) ≡ located dialect live units x)
        × Appends start mid []
    reads_all summary (inl (units, ends, settled)) = (units, ends, settled.tells, section_same units [], settled.out)
    reads_all summary (inr done) = absurd done.4.tells

    -- it stopped at the end of a unit
    stopped : (f : RunFault) (units : List (List ℕ)) (b back : List ℕ)
        → HasBegun dialect (take limit bytes) units b back
        → VisitorStops (locate_story refuses) first new start mid (section_visits dialect units b) f
        → (f ≡ fault.NoMemory) × Reads (Err fault.NoMemory)
    stopped f units b back has stops =
        let r = stops.reason in
        let last = ends_same stops.before r.before stops.visit (of_end r.h) r.whole in
        let cut : section_visits dialect units b ≡ stops.before ++ of_end r.h ∷ stops.more =
        stops.whole ∙ ap (λ (v : Visit). stops.before ++ v ∷ stops.more) last.1 in
        let split = splits_section dialect first.unit units b stops.before r.h stops.more cut in
        let a = r.answers (map (looked_up q.base) q.asked.now) made in
        let asked = was_asked q a.0 a.1 a.2 in
        let before_is : (x : Place) → located_by first x stops.before ≡ located dialect live split.front x =
        λ x. live_is x stops.before (λ l. located dialect l split.front x) (λ l. split.located_before l x) in
        let after_is : (x : Place)
        → located_by first x (stops.before ++ of_end r.h ∷ [])
        ≡ located dialect live (split.front ++ split.u ∷ []) x =
        λ x. live_is x (stops.before ++ of_end r.h ∷ []) (λ l. located dialect l (split.front ++ split.u ∷ []) x)
        (λ l. split.located_later l x) in
        let all : units ≡ (split.front ++ split.u ∷ []) ++ split.after =
        split.whole ∙ sym (append_assoc split.front (split.u ∷ []) split.after) in (
          r.is,
          record {
            units = split.front;
            b = split.u;
            back = concat split.after ++ (b ++ back);
            visits = stops.before;
            ends = inr (
              has_front dialect (take limit bytes) units (split.front ++ split.u ∷ []) split.after
                  (b ++ back) all has.has,
              record {
                a = asked.0;
                number = a.0;
                is_asked = asked.1;
                not_before =
                    ap (located dialect live split.front) asked.2 ∙ sym (before_is a.1)
                    ∙ ap (located_by first a.1) last.0 ∙ a.3;
                answers =
                    ap is_some (ap (located dialect live (split.front ++ split.u ∷ [])) asked.2 ∙ sym (after_is a.1)
                    ∙ ap (λ (v : Visit). located_by first a.1 (stops.before ++ v ∷ [])) (sym last.1)) ∙ a.4;
              },
              asked_room q split.u r.h refuses first.memory.now
                  (r.refused (map (looked_up q.base) q.asked.now) made) (header_few dialect split.u r.h split.header),
            );
            stands = stops.tells;
            same = before_is;
            out = stops.out;
          },
        )

    -- where it ends with a fault
    pub reads_some : (f : RunFault) → Ran (locate_story refuses) dialect limit bytes left first new start mid (Err f)
        → Reads (Err f)
    reads_some (fault.Write out) (units, b, back, has, writes) = absurd (let below = writes.3.0 in omega arith)
    reads_some fault.NoMemory (units, b, back, inl (ends, settled)) =
        record {
          units = units;
          b = b;
          back = back;
          visits = section_visits dialect units b;
          ends = inl ends;
          stands =
              settled.tells;
          same = section_same units b;
          out = settled.out;
        }
    reads_some fault.NoMemory (units, b, back, inr (has, sound, stops)) =
        (stopped fault.NoMemory units b back has stops).1
    reads_some (fault.Damage offset kind) (units, b, back, inl (ends, settled)) =
        record {
          units = units;
          b = b;
          back = back;
          visits = section_visits dialect units b;
          ends = ends;
          stands =
              settled.tells;
          same = section_same units b;
          out = settled.out;
        }
    reads_some (fault.Damage offset kind) (units, b, back, inr (has, sound, stops)) =
        absurd (let e = (stopped _ units b back has stops).0 in cc)
    reads_some fault.Read (units, b, back, inl (ends, settled)) =
        record {
          units = units;
          b = b;
          back = back;
          visits = section_visits dialect units b;
          ends = ends;
          stands =
              settled.tells;
          same = section_same units b;
          out = settled.out;
        }
    reads_some fault.Read (units, b, back, inr (has, sound, stops)) =
        absurd (let e = (stopped _ units b back has stops).0 in cc)
    reads_some fault.SectionTooLong (units, b, back, inl (ends, settled)) =
        record {
          units = units;
          b = b;
          back = back;
          visits = section_visits dialect units b;
          ends = ends;
          stands =
              settled.tells;
          same = section_same units b;
          out = settled.out;
        }
    reads_some fault.SectionTooLong (units, b, back, inr (has, sound, stops)) =
        absurd (let e = (stopped _ units b back has stops).0 in cc)
    reads_some fault.NotFound (units, b, back, inl (ends, settled)) = absurd ends
    reads_some fault.TwoSums (units, b, back, inl (ends, settled)) = absurd ends
    reads_some fault.NoUnit (units, b, back, inl (ends, settled)) = absurd ends
    reads_some fault.NotFound (units, b, back, inr (has, sound, stops)) =
        absurd (let e = (stopped _ units b back has stops).0 in cc)
    reads_some fault.TwoSums (units, b, back, inr (has, sound, stops)) =
        absurd (let e = (stopped _ units b back has stops).0 in cc)
    reads_some fault.NoUnit (units, b, back, inr (has, sound, stops)) =
        absurd (let e = (stopped _ units b back has stops).0 in cc)
    reads_some (fault.ForeignUnit unit) (units, b, back, inl (ends, settled)) = absurd ends
    reads_some (fault.ForeignUnit unit) (units, b, back, inr (has, sound, stops)) =
        absurd (let e = (stopped _ units b back has stops).0 in cc)
    reads_some (fault.Emit unit f) (units, b, back, inl (ends, settled)) = absurd ends
    reads_some (fault.Emit unit f) (units, b, back, inr (has, sound, stops)) =
        absurd (let e = (stopped _ units b back has stops).0 in cc)

    pub reads : (ending : Result Summary RunFault)
        → Ran (locate_story refuses) dialect limit bytes left first new start mid ending → Reads ending
    reads (Ok summary) ran =
        let r = reads_all summary ran in
        record {
          units = r.0;
          b = [];
          back = [];
          visits = section_visits dialect r.0 [];
          ends = r.1;
          stands = r.2;
          same =
              r.3;
          out = r.4;
        }
    reads (Err f) ran = reads_some f ran

    -- ---- what is printed then

    module _ (now : Option (List ℕ)) where
      -- the lines are out
      lines_out : (units : List (List ℕ)) (visits : List Visit)
          → ((x : Place) → located_by first x visits ≡ located dialect live units x) → Appends start mid []
          → Appends mid now (seen_lines q.style (answer_for first visits q.base) q.asked.now)
          → Appends start now (answer_lines dialect s q units)
      lines_out units visits same nothing out =
          Appends-trans start mid now [] (answer_lines dialect s q units) nothing
          (subst (Appends mid now) (lines_same visits (located dialect live units) same) out)

      pub all_told : (summary : Summary) (all_found : WhichFound)
          → Ran (locate_story refuses) dialect limit bytes left first new start mid (Ok summary)
          → ((visits : List Visit) → Locating first new start mid visits
          → PrintsAll mid now q (answer_for first visits q.base) (Ok all_found))
          → Locates Refuses dialect s q limit bytes left start now (Ok all_found)
      all_told summary all_found ran prints =
          let r = reads_all summary ran in
          let p = prints (section_visits dialect r.0 []) r.2 in (
            r.0,
            summary,
            r.1,
            p.0 ∙ found_same (section_visits dialect r.0 []) (located dialect live r.0) r.3,
            lines_out r.0 (section_visits dialect r.0 []) r.3 r.4 p.1,
          )

      told_of : (f : RunFault) (all_found : WhichFound) → (r : Reads (Err f))
          → PrintsAll mid now q (answer_for first r.visits q.base) (Ok all_found)
          → (units : List (List ℕ)) × (b : List ℕ) × (back : List ℕ)
          × Ends Refuses dialect limit bytes left q units b back (Err f) × Appends start now (answer_lines dialect s q units)
      told_of f all_found r p = (r.units, r.b, r.back, r.ends, lines_out r.units r.visits r.same r.out p.1)

      pub fault_told : (f : RunFault) (all_found : WhichFound)
          → Ran (locate_story refuses) dialect limit bytes left first new start mid (Err f)
          → ((visits : List Visit) → Locating first new start mid visits
          → PrintsAll mid now q (answer_for first visits q.base) (Ok all_found))
          → Locates Refuses dialect s q limit bytes left start now (Err f)
      fault_told (fault.Write out) all_found (units, b, back, has, writes) prints =
          absurd (let below = writes.3.0 in omega arith)
      fault_told fault.NoMemory all_found ran prints =
          let r = reads_some fault.NoMemory ran in inr (told_of fault.NoMemory all_found r (prints r.visits r.stands))
      fault_told (fault.Damage offset kind) all_found ran prints =
          let r = reads_some (fault.Damage offset kind) ran in
          told_of (fault.Damage offset kind) all_found r (prints r.visits r.stands)
      fault_told fault.Read all_found ran prints =
          let r = reads_some fault.Read ran in told_of fault.Read all_found r (prints r.visits r.stands)
      fault_told fault.SectionTooLong all_found ran prints =
          let r = reads_some fault.SectionTooLong ran in
          told_of fault.SectionTooLong all_found r (prints r.visits r.stands)
      fault_told fault.NotFound all_found ran prints =
          let r = reads_some fault.NotFound ran in told_of fault.NotFound all_found r (prints r.visits r.stands)
      fault_told fault.TwoSums all_found ran prints =
          let r = reads_some fault.TwoSums ran in told_of fault.TwoSums all_found r (prints r.visits r.stands)
      fault_told fault.NoUnit all_found ran prints =
          let r = reads_some fault.NoUnit ran in told_of fault.NoUnit all_found r (prints r.visits r.stands)
      fault_told (fault.ForeignUnit unit) all_found ran prints =
          let r = reads_some (fault.ForeignUnit unit) ran in
          told_of (fault.ForeignUnit unit) all_found r (prints r.visits r.stands)
      fault_told (fault.Emit unit e) all_found ran prints =
          let r = reads_some (fault.Emit unit e) ran in
          told_of (fault.Emit unit e) all_found r (prints r.visits r.stands)

      -- a write failed
      pub lines_lost : (ending : Result Summary RunFault) (lost : WriteFault)
          → Ran (locate_story refuses) dialect limit bytes left first new start mid ending
          → ((visits : List Visit) → Locating first new start mid visits
          → PrintsAll mid now q (answer_for first visits q.base) (Err lost))
          → Locates Refuses dialect s q limit bytes left start now (Err (fault.Write lost.out))
      lines_lost ending lost ran prints =
          let r = reads ending ran in
          let t = subst (λ (l : List ℕ). TellsOut mid now l lost)
          (lines_same r.visits (located dialect live r.units) r.same)
          (prints r.visits r.stands) in (
            r.units,
            r.b,
            r.back,
            ending,
            r.ends,
            (
              t.0,
              record {
                within = t.1.within;
                written =
                    Appends-trans start mid now [] (take lost.out (answer_lines dialect s q r.units)) r.out t.1.written;
              },
            ),
          )

      pub is_told : (ending : Result Summary RunFault) (printed : Result WhichFound WriteFault)
          → Ran (locate_story refuses) dialect limit bytes left first new start mid ending
          → ((visits : List Visit) → Locating first new start mid visits
          → PrintsAll mid now q (answer_for first visits q.base) printed)
          → Locates Refuses dialect s q limit bytes left start now (told ending printed)
      is_told ending (Err lost) ran prints = lines_lost ending lost ran prints
      is_told (Ok summary) (Ok all_found) ran prints = all_told summary all_found ran prints
      is_told (Err f) (Ok all_found) ran prints = fault_told f all_found ran prints
