-- How a locator goes on with visits.
use Rattle.std.proofs.Common.{◌≡◌, ℕ, Bool, true, List, [], ◌∷◌, ◌++◌, length, slice_get, Option, Some, None, Result}
use Rattle.std.proofs.Common.{Ok, Err, refl, sym, ap, ap₂, ◌∙◌, subst, append-nil}
use Rattle.std.specs.Prelude.{⊤, is_some, option_map, OnErr, OnOk}
use Rattle.std.specs.Option.{option_and_then, option_or}
use Rattle.std.specs.Io.KnownBytes.{Appends}
use Rattle.dl_field.specs.HeaderData.{HeaderData}
use Rattle.dl_rows.specs.declared.row.Row.{Row}
use Rattle.dl_look.specs.declared.live.LiveRows.{LiveRows}
use Rattle.dl_look.specs.declared.place.Place.{Place}
use Rattle.dl_look.specs.declared.finders.Finders.{Finders}
use Rattle.dl_look.specs.Answer.{answer}
use Rattle.dl_look.specs.FindersRows.{Stand, answered_count, told_count}
use Rattle.dl_look.specs.LiveRows.{live_rows, Tells}
use Rattle.dl_look.specs.Units.{FirstAnswer, answer_of_units}
use Rattle.dl_memory.specs.declared.memory.NoMemory.{NoMemory}
use Rattle.dl_memory.specs.Refusals.{IsRefused}
use Rattle.dl_print.specs.ValueText.{strings_of}
use Rattle.dl_sections.specs.declared.fault.RunFault.TheVariants as fault
use Rattle.dl_sections.specs.Copying.{offset_after}
use Rattle.dl_sections.specs.RowsTold.{rows_after}
use Rattle.dl_sections.specs.declared.around.Damage.{Damage}
use Rattle.dl_sections.specs.GoingOn.{IsTold}
use Rattle.dl_sections.specs.Section.{Visit, of_damage, of_end}
use Rattle.dl_rows.specs.declared.sink.Flow.{Flow}
use Rattle.dl_rows.specs.declared.sink.Flow.TheVariants as flow
use Rattle.dl_sections.specs.Visiting.{GoesOn, StopsIn}
use Rattle.dl_sections.proofs.VisitLemmas.{rows_after-append}
use Rattle.dl_sections.proofs.Fronts.{map_none, or_none}
use Rattle.dl_addr.specs.declared.locating.Locator.{Locator}
use Rattle.dl_addr.specs.declared.kept.FilePath.{FilePath}
use Rattle.dl_addr.specs.declared.kept.PathUnit.{PathUnit}
use Rattle.dl_addr.specs.declared.kept.Paths.{Paths}
use Rattle.dl_addr.specs.Location.{Location, location_at}
use Rattle.dl_addr.specs.Answers.{located_seen}
use Rattle.dl_addr.specs.Keeping.{Keeps, path_under}
use Rattle.dl_addr.specs.Locating.{IsMadeFor, Locating, LooksFor, code_of, ended_rows, locate_story, located_after}
use Rattle.dl_addr.specs.Locating.{located_by, located_under, path_of_located, printed_by}
use Rattle.dl_addr.specs.Locations.{Located}
use Rattle.dl_path.specs.Paths.{beside_table, has_directory_0, path_of}
use Rattle.dl_dirs.specs.Compilation.{directory_by}
use Rattle.dl_addr.specs.Room.{HasFew, paths_room}
use Rattle.dl_addr.specs.Texts.{HasPath, IsKept, named, path_at, printed, unit_place}
use Rattle.dl_addr.proofs.LocatedLemmas.{ended_rows-append, located_after-append, no_live_rows, offset_after-append}
use Rattle.dl_addr.proofs.LocatedLemmas.{rows_located}
use Rattle.dl_addr.proofs.RoomLemmas.{few_same}
use Rattle.dl_addr.proofs.TextLemmas.{kept_stays, none_is_some, path_found, some_same}

-- the same finders stand for the same lists
pub stand_same : (f : Finders) (places : List Place) (units units' : List (List Row)) (rows rows' : List Row)
    → units ≡ units' → rows ≡ rows' → Stand f places units rows → Stand f places units' rows'
stand_same f places units units' rows rows' e e' st =
    subst (λ (l : List Row). Stand f places units' l) e' (subst (λ (l : List (List Row)). Stand f places l rows) e st)

-- visits more, which locate nothing
module _ {M : Type 0} (first old new : Locator M) (start held : Option (List ℕ)) (visits more : List Visit)
    (s : Locating first old start held visits) where
  abbrev live : ℕ → Bool
  live = code_of first

  abbrev rows : List Row
  rows = rows_after [] visits

  -- it goes on with visits that end no unit
  pub goes_on : (none : (x : Place) (n : ℕ) → located_after live x rows n more ≡ None) → ended_rows live rows more ≡ []
      → new.code ≡ old.code → new.directories ≡ old.directories → new.style ≡ old.style → new.strings.now ≡ old.strings.now
      → new.memory.now ≡ old.memory.now → new.unit ≡ offset_after old.unit more → Tells new.live live (rows_after rows more)
      → new.kept.items ≡ old.kept.items → new.paths ≡ old.paths
      → ((places : List Place) (units : List (List Row)) → Stand old.finders places units (live_rows live rows)
      → Stand new.finders places units (live_rows live (rows_after rows more)))
      → answered_count new.finders ≡ answered_count old.finders
      → Locating first new start held (visits ++ more)
  goes_on none no_end code directories style strings memory unit tells kept paths stands answers = record {
    code = code ∙ s.code;
    directories = directories ∙ s.directories;
    style = style ∙ s.style;
    strings = strings ∙ s.strings;
    memory = memory ∙ s.memory;
    unit = unit ∙ ap (λ (n : ℕ). offset_after n more) s.unit ∙ sym (offset_after-append first.unit visits more);
    live = subst (Tells new.live live) (sym (rows_after-append [] visits more)) tells;
    looks = λ places made. (
        let l = s.looks places made in
        record {
          stand = stand_same new.finders places (ended_rows live [] visits) (ended_rows live [] (visits ++ more))
              (live_rows live (rows_after rows more)) (live_rows live (rows_after [] (visits ++ more)))
              (sym (ended_rows-append live [] visits more
              ∙ ap (λ (e : List (List Row)). ended_rows live [] visits ++ e) no_end
              ∙ append-nil (ended_rows live [] visits)))
              (sym (ap (live_rows live) (rows_after-append [] visits more)))
              (stands places (ended_rows live [] visits) l.stand);
          count = ap length kept ∙ l.count;
          kept = λ i x d at is. (
              let before : located_by first x visits ≡ Some d =
              sym (or_none (located_by first x visits))
              ∙ ap (option_or (located_by first x visits)) (sym (none x (offset_after first.unit visits)))
              ∙ sym (located_after-append live x [] first.unit visits more)
              ∙ is in
              let k = l.kept i x d at before in
              record {
                number = k.number;
                entry = ap (λ (e : List ℕ). slice_get e i) kept ∙ k.entry;
                is = subst (λ (p : Paths). HasPath p k.number (path_of_located first d)) (sym paths) k.is;
              });
        });
    few = few_same old.paths new.paths (answered_count old.finders) (answered_count new.finders) paths answers s.few;
    nothing = s.nothing;
  }

-- the current unit is damaged
pub forgets : {M : Type 0} (refuses : M → ℕ → Type 0) (old : Locator M) (finders : Finders) (told : LiveRows)
    (unit : ℕ) (damage : Damage)
    → ((places : List Place) (units : List (List Row)) (rows : List Row) → Stand old.finders places units rows
    → Stand finders places units [])
    → ((live : ℕ → Bool) → Tells told live [])
    → answered_count finders ≡ answered_count old.finders
    → IsTold (locate_story refuses) old (record old { finders = finders; live = told }) unit damage
forgets refuses old finders told unit damage forgot tells answers = record {
  tells = λ first start now visits s. (
      let live = code_of first in
      goes_on first old (record old { finders = finders; live = told }) start now visits
      (of_damage unit damage.offset damage.kind ∷ []) s (λ x n. refl) refl refl refl refl refl refl refl (tells live) refl refl
      (λ places units st. stand_same finders places units units [] (live_rows live []) refl (sym (no_live_rows live))
      (forgot places units (live_rows live (rows_after [] visits)) st)) answers);
  quiet = λ first visits. refl;
  reasons = λ first visits offset kind r. let e = r.is in absurd cc;
}

-- the current unit ends
module _ {M : Type 0} (first old mid : Locator M) (start held : Option (List ℕ)) (visits : List Visit) (h : Option HeaderData)
    (result : Result ⊤ NoMemory) (s : Locating first old start held visits) (keeps : Keeps old mid h result) where
  abbrev lives : ℕ → Bool
  lives = code_of first

  abbrev here : List Row
  here = live_rows lives (rows_after [] visits)

  abbrev units : List (List Row)
  units = ended_rows lives [] visits

  abbrev offset : ℕ
  offset = offset_after first.unit visits

  abbrev all : List Visit
  all = visits ++ of_end h ∷ []

  -- what is located with this unit
  now_located : (x : Place)
      → located_by first x all
      ≡ option_or (located_by first x visits) (located_under lives x (rows_after [] visits) offset h)
  now_located x =
      located_after-append lives x [] first.unit visits (of_end h ∷ [])
      ∙ ap (option_or (located_by first x visits)) (or_none (located_under lives x (rows_after [] visits) offset h))

  no_row : (x : Place) (d : Located) → located_by first x visits ≡ Some d → answer_of_units units x ≡ None → ⊥
  no_row x d is none =
      none_is_some (sym none ∙ rows_located lives x [] first.unit visits ∙ ap (option_map (λ (l : Located). l.row)) is)

  not_first : (places : List Place) (i : ℕ) (x : Place) (d : Located) → slice_get places i ≡ Some x
      → located_by first x visits ≡ Some d → (r : Row) → FirstAnswer places units here i r → ⊥
  not_first places i x d at is r (y, at', none, some) =
      let same : y ≡ x = some_same y x (sym at' ∙ at) in
      no_row x d is (ap (answer_of_units units) (sym same) ∙ none)

  -- what was kept before stays
  stays : (places : List Place) → LooksFor first old places visits → (i : ℕ) (x : Place) (d : Located)
      → slice_get places i ≡ Some x → located_by first x visits ≡ Some d
      → IsKept mid.paths mid.kept.items i (path_of_located first d)
  stays places l i x d at is =
      kept_stays old.paths mid.paths old.kept.items mid.kept.items i (path_of_located first d) keeps.grows
      (keeps.others places units here l.stand i (not_first places i x d at is)) (l.kept i x d at is)

  -- it stands for the visits before, where no path was added
  pub still : HasFew mid.paths (answered_count old.finders) → Locating first mid start held visits
  still few = record {
    code = keeps.code ∙ s.code;
    directories = keeps.directories ∙ s.directories;
    style = keeps.style ∙ s.style;
    strings = keeps.strings ∙ s.strings;
    memory = keeps.memory ∙ s.memory;
    unit = keeps.unit ∙ s.unit;
    live = subst (λ (l : LiveRows). Tells l lives (rows_after [] visits)) (sym keeps.live) s.live;
    looks = λ places made. (
        let l = s.looks places made in
        record {
          stand = subst (λ (f : Finders). Stand f places units here) (sym keeps.finders) l.stand;
          count = keeps.count ∙ l.count;
          kept = stays places l;
        });
    few = subst (λ (f : Finders). HasFew mid.paths (answered_count f)) (sym keeps.finders) few;
    nothing = s.nothing;
  }

  none_before : (x : Place) → answer_of_units units x ≡ None → located_by first x visits ≡ None
  none_before x none =
      map_none (λ (l : Located). l.row) (located_by first x visits) (sym (rows_located lives x [] first.unit visits)
      ∙ none)

  pub stops : (refuses : M → ℕ → Type 0) (e : NoMemory) (is : result ≡ Err e)
      → ((places : List Place) (units : List (List Row)) (rows : List Row) → Stand old.finders places units rows
      → HasFew old.paths (answered_count old.finders)
      → IsRefused (refuses old.memory.now) (paths_room (length places) h))
      → StopsIn (locate_story refuses) first mid start held visits (of_end h ∷ []) fault.NoMemory
  stops refuses e is refused = (
    of_end h ∷ [],
    [],
    refl,
    (
      visits,
      of_end h,
      refl,
      still (subst (λ (r : Result ⊤ NoMemory). OnErr r ((count : ℕ) → HasFew old.paths count → HasFew mid.paths count)) is
          keeps.no_more (answered_count old.finders) s.few),
      record {
        is = refl;
        before = visits;
        h = h;
        whole = refl;
        answers = λ places made. first_answer places (s.looks places made) (
            subst (λ (r : Result ⊤ NoMemory). OnErr r ((places : List Place) (units : List (List Row)) (rows : List Row)
            → Stand old.finders places units rows → (i : ℕ) × (r : Row) × FirstAnswer places units rows i r)) is
            keeps.some places units here (s.looks places made).stand);
        refused =
            λ places made. subst (λ (m : M). IsRefused (refuses m) (paths_room (length places) h)) s.memory
            (refused places units here (s.looks places made).stand s.few);
      },
    ),
  ) where
    first_answer : (places : List Place) → LooksFor first old places visits
        → (i : ℕ) × (r : Row) × FirstAnswer places units here i r
        → (i : ℕ) × (x : Place) × (slice_get places i ≡ Some x) × (located_by first x visits ≡ None)
        × (is_some (located_by first x all) ≡ true)
    first_answer places l (i, r, (x, at, none, some)) =
        let before = none_before x none in (
          i,
          x,
          at,
          before,
          ap is_some (now_located x
              ∙ ap₂ option_or before (ap (option_map {U = Located} (λ r. record { row = r; header = h; unit = offset }))
              some)),
        )

  path_same : (x : Place) (r : Row)
      → path_under old h r ≡ path_of_located first (record { row = r; header = h; unit = offset })
  path_same x r =
      ap₂ (λ st ds. (
        named st (beside_table (has_directory_0 h) (directory_by ds old.unit)) (path_of (strings_of old.strings.now) h
            r.file),
        unit_place h old.unit,
      )) s.style s.directories
      ∙ ap₂ (λ ss (n : ℕ). (
        named first.style (beside_table (has_directory_0 h) (directory_by first.directories n)) (path_of (strings_of ss) h
            r.file),
        unit_place h n,
      )) s.strings s.unit

  -- it goes on after the unit
  pub tail : (is : result ≡ Ok tt) (finders : Finders) (told : LiveRows)
      → ((places : List Place) (units : List (List Row)) (rows : List Row) → Stand mid.finders places units rows
      → Stand finders places (units ++ rows ∷ []) [])
      → ((live : ℕ → Bool) → Tells told live [])
      → answered_count finders ≡ told_count mid.finders
      → Locating first (record mid { finders = finders; live = told }) start held all
  tail is finders told ended tells answers = record {
    code = keeps.code ∙ s.code;
    directories = keeps.directories ∙ s.directories;
    style = keeps.style ∙ s.style;
    strings = keeps.strings ∙ s.strings;
    memory = keeps.memory ∙ s.memory;
    unit = keeps.unit ∙ s.unit ∙ sym (offset_after-append first.unit visits (of_end h ∷ []));
    live = subst (Tells told lives) (sym (rows_after-append [] visits (of_end h ∷ []))) (tells lives);
    looks = λ places made. (
        let l = s.looks places made in
        let right = subst
        (λ (r : Result ⊤ NoMemory). OnOk r ((places : List Place) (units : List (List Row)) (rows : List Row)
        → Stand old.finders places units rows
        → length old.kept.items ≡ length places → (i : ℕ) (r : Row) → FirstAnswer places units rows i r
        → IsKept mid.paths mid.kept.items i (path_under old h r))) is keeps.right in
        record {
          stand = stand_same finders places (units ++ here ∷ []) (ended_rows lives [] all) []
              (live_rows lives (rows_after [] all))
              (sym (ended_rows-append lives [] visits (of_end h ∷ [])))
              (sym (ap (live_rows lives) (rows_after-append [] visits (of_end h ∷ [])) ∙ no_live_rows lives))
              (ended places units here
              (subst (λ (f : Finders). Stand f places units here) (sym keeps.finders) l.stand));
          count = keeps.count ∙ l.count;
          kept = λ i x d at is. by places l (right places units here l.stand l.count) i x d at
              (located_by first x visits) refl (sym (now_located x) ∙ is);
        });
    few = subst (λ (n : ℕ). HasFew mid.paths n) (ap told_count (sym keeps.finders) ∙ sym answers)
        (subst (λ (r : Result ⊤ NoMemory). OnOk r (HasFew old.paths (answered_count old.finders)
        → HasFew mid.paths (told_count old.finders))) is keeps.few s.few);
    nothing = s.nothing;
  } where
    under_is : (places : List Place) (i : ℕ) (x : Place) (d : Located) → slice_get places i ≡ Some x
        → ((i : ℕ) (r : Row) → FirstAnswer places units here i r
        → IsKept mid.paths mid.kept.items i (path_under old h r))
        → answer_of_units units x ≡ None → (a : Option Row) → answer here x ≡ a
        → option_map {U = Located} (λ r. record { row = r; header = h; unit = offset }) a ≡ Some d
        → IsKept mid.paths mid.kept.items i (path_of_located first d)
    under_is places i x d at right none None is e = absurd (none_is_some e)
    under_is places i x d at right none (Some r) is e =
        subst (λ (t : Located). IsKept mid.paths mid.kept.items i (path_of_located first t))
        (some_same (record { row = r; header = h; unit = offset }) d e)
        (subst (IsKept mid.paths mid.kept.items i) (path_same x r) (right i r (x, at, none, is)))

    none_answers : (x : Place) → located_by first x visits ≡ None → answer_of_units units x ≡ None
    none_answers x none = rows_located lives x [] first.unit visits ∙ ap (option_map (λ (l : Located). l.row)) none

    by : (places : List Place) → LooksFor first old places visits
        → ((i : ℕ) (r : Row) → FirstAnswer places units here i r
        → IsKept mid.paths mid.kept.items i (path_under old h r))
        → (i : ℕ) (x : Place) (d : Located) → slice_get places i ≡ Some x → (o : Option Located)
        → located_by first x visits ≡ o
        → option_or o (located_under lives x (rows_after [] visits) offset h) ≡ Some d
        → IsKept mid.paths mid.kept.items i (path_of_located first d)
    by places l right i x d at None is e = under_is places i x d at right (none_answers x is) (answer here x) refl e
    by places l right i x d at (Some d') is e = stays places l i x d at (is ∙ e)

-- no visit was told yet
pub begins : {M : Type 0} (first : Locator M) (start : Option (List ℕ)) → first.unit ≡ 0
    → ((live : ℕ → Bool) → Tells first.live live []) → HasFew first.paths (answered_count first.finders)
    → Appends start start [] → Locating first first start start []
begins first start unit tells few nothing = record {
  code = refl;
  directories = refl;
  style = refl;
  strings = refl;
  memory = refl;
  unit = refl;
  live = tells (code_of first);
  looks = λ places made. record {
    stand = stand_same first.finders places [] [] [] (live_rows (code_of first) []) refl
        (sym (no_live_rows (code_of first))) made.stand;
    count = made.count;
    kept = λ i x d at is. absurd (none_is_some is);
  };
  few = few;
  nothing = nothing;
}

-- it has printed nothing
pub settles : {M : Type 0} (refuses : M → ℕ → Type 0) (first now : Locator M) (start held : Option (List ℕ))
    (visits : List Visit) (flow : Flow)
    → GoesOn (locate_story refuses) first now start held visits flow
    → GoesOn (locate_story refuses) first now start held visits flow × Appends start held []
settles refuses first now start held visits flow.On s = (s, s.nothing)
settles refuses first now start held visits flow.Stop s = absurd s

abbrev row_with : {M : Type 0} → Locator M → Row → Option (List ℕ) × PathUnit → Option Location
row_with l r path = Some (location_at r path.1.offset (printed_by l path.1 path.0))

-- what a place is answered
module _ {M : Type 0} (first now : Locator M) (start held : Option (List ℕ)) (visits : List Visit) (places : List Place)
    (s : Locating first now start held visits) (made : IsMadeFor first places)
    (n : ℕ) (answered : Option Row)
    (given : answered ≡ option_and_then (answer_of_units (ended_rows (code_of first) [] visits)) (slice_get places
    n)) where
  abbrev Seen : Option Location → Type 0
  Seen o = o ≡ option_map (located_seen first) (option_and_then (λ x. located_by first x visits) (slice_get places n))

  row_is : (x : Place) → slice_get places n ≡ Some x
      → answered ≡ option_map (λ (l : Located). l.row) (located_by first x visits)
  row_is x at =
      given ∙ ap (option_and_then (answer_of_units (ended_rows (code_of first) [] visits))) at
      ∙ rows_located (code_of first) x [] first.unit visits

  seen_is : (x : Place) (o : Option Located) → slice_get places n ≡ Some x → located_by first x visits ≡ o
      → option_map (located_seen first) (option_and_then (λ x. located_by first x visits) (slice_get places n))
      ≡ option_map (located_seen first) o
  seen_is x o at is =
      ap (λ (p : Option Place). option_map (located_seen first) (option_and_then (λ x. located_by first x visits) p)) at
      ∙ ap (option_map (located_seen first)) is

  pub nothing_seen : answered ≡ None → Seen None
  nothing_seen none = by (slice_get places n) refl where
    by : (o : Option Place) → slice_get places n ≡ o → Seen None
    by None at =
        sym (ap (λ (p : Option Place). option_map (located_seen first)
        (option_and_then (λ x. located_by first x visits) p)) at)
    by (Some x) at =
        sym (seen_is x None at (map_none (λ (l : Located). l.row) (located_by first x visits) (sym (row_is x at)
        ∙ none)))

  -- what is found of a file
  abbrev found : Row → Option FilePath → Option Location
  found row file =
      option_map
      (λ (f : FilePath). location_at row f.unit.offset (printed_by now f.unit (path_at now.paths.texts.items f))) file

  printed_same : (r : Row) (p : Option (List ℕ) × PathUnit) → row_with now r p ≡ row_with first r p
  printed_same r p =
      ap₂ (λ style directories. Some (location_at r p.1.offset
      (printed style (beside_table p.1.has_directory_0 (directory_by directories p.1.offset)) p.0))) s.style s.directories

  found_is : (row : Row) (d : Located) (file : Option FilePath) (k : ℕ) → row ≡ d.row
      → file ≡ slice_get now.paths.files.items k → HasPath now.paths k (path_of_located first d)
      → found row file ≡ Some (located_seen first d)
  found_is row d file k e is h =
      ap (found row) (is ∙ h.at)
      ∙ ap₂ (λ (r : Row) (p : Option (List ℕ) × PathUnit). row_with now r p) e
      (ap₂ (λ (p : Option (List ℕ)) (u : PathUnit). (p, u))
      (path_found now.paths.texts.items h.file (path_of_located first d).0 h.is_path) h.unit)
      ∙ printed_same d.row (path_of_located first d)

  pub something_seen : (row : Row) (file : Option FilePath) → answered ≡ Some row
      → file ≡ option_and_then (slice_get now.paths.files.items) (slice_get now.kept.items n)
      → Seen (found row file)
  something_seen row file some is = by (slice_get places n) refl where
    at_located : (x : Place) → slice_get places n ≡ Some x → (o : Option Located) → located_by first x visits ≡ o
        → Seen (found row file)
    at_located x at None none =
        absurd (none_is_some (sym (row_is x at ∙ ap (option_map (λ (l : Located). l.row)) none) ∙ some))
    at_located x at (Some d) is_located =
        let k = (s.looks places made).kept n x d at is_located in
        let own : row ≡ d.row =
        some_same row d.row (sym some ∙ row_is x at ∙ ap (option_map (λ (l : Located). l.row)) is_located) in
        let here : file ≡ slice_get now.paths.files.items k.number =
        is ∙ ap (option_and_then (slice_get now.paths.files.items)) k.entry in
        found_is row d file k.number own here k.is ∙ sym (seen_is x (Some d) at is_located)

    by : (o : Option Place) → slice_get places n ≡ o
        → Seen (found row file)
    by None at =
        absurd (none_is_some
        (sym (given ∙ ap (option_and_then (answer_of_units (ended_rows (code_of first) [] visits))) at) ∙ some))
    by (Some x) at = at_located x at (located_by first x visits) refl
