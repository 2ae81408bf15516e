-- What a seeker has after a row, and after the end of a unit.
use Rattle.std.proofs.Common.{◌≡◌, ◌⊎◌, inl, inr, ℕ, ◌+◌, ◌*◌, ◌<◌, ◌≤◌, Bool, true, false, List, [], ◌∷◌, ◌++◌, length, map}
use Rattle.std.proofs.Common.{get_or, slice_get, slice_index_or, Option, Some, None, Result, Ok, Err, refl, sym, ap, ap₂, ◌∙◌, subst, append-nil, arith}
use Rattle.std.specs.Prelude.{⊤, ◌||◌, is_err, if◌then◌else◌, OnErr, OnOk}
use Rattle.std.proofs.lemmas.List.{map-append}
use Rattle.dl_field.specs.HeaderData.{HeaderData}
use Rattle.dl_rows.specs.declared.row.Row.{Row}
use Rattle.dl_look.specs.LiveRows.{live_rows, Tells}
use Rattle.dl_memory.specs.declared.memory.NoMemory.{NoMemory}
use Rattle.dl_memory.specs.Refusals.{IsRefused}
use Rattle.dl_rows.specs.Items.{a_row}
use Rattle.dl_sections.specs.Section.{Visit, of_item, of_end}
use Rattle.dl_addr.proofs.LocatedLemmas.{no_live_rows}
use Rattle.dl_lines.specs.declared.question.Wanted.{Wanted}
use Rattle.dl_lines.specs.declared.search.Search.{Search}
use Rattle.dl_lines.specs.declared.seeker.LineSeeker.{LineSeeker}
use Rattle.dl_lines.specs.Places.{CodePlace, Known, place_at, places_after}
use Rattle.dl_lines.specs.Room.{told_room}
use Rattle.dl_lines.specs.Runs.{TellsFirst}
use Rattle.dl_lines.specs.Searching.{AllBecome, IsAdded, IsEnded, Stands}
use Rattle.dl_lines.specs.Seeking.{AllStand, Heard, Hears, Seeking, TakesRow, current_places, heard_after, known_of}
use Rattle.dl_lines.specs.Seeking.{Refused, no_path, nothing_heard, with_visit}
use Rattle.dl_lines.proofs.SearchLemmas.{adds, ends, more}
use Rattle.dl_lines.proofs.HeardLemmas.{err_of, no_places, ok_of}
use Rattle.dl_lines.proofs.SeekLemmas.{of_memory, same_known, step, within_room}

module _ {M : Type 0} (refuses : M → ℕ → Type 0) (first old : LineSeeker M) (start held : Option (List ℕ))
    (visits : List Visit) (s : Seeking refuses first old start held visits) where
  abbrev known : Known
  known = known_of first

  abbrev heard : Heard
  heard = heard_after known nothing_heard visits

  -- ---- a row

  module _ (mid : LineSeeker M) (header : HeaderData) (r : Row) (taken : Bool) (not_refused : old.is_refused ≡ false)
      (takes : (rows : List Row) → Tells old.live (known_of old).live rows
      → TellsFirst old.statements (live_rows (known_of old).live rows) → TakesRow old mid rows r taken)
      (same : mid ≡ record old { live = mid.live; statements = mid.statements }) where
    abbrev row_heard : Heard
    row_heard = with_visit known heard (of_item (a_row header r))

    row_taken : TakesRow old mid heard.rows r taken
    row_taken =
        let h = s.whole not_refused in
        takes heard.rows (subst (λ (k : Known). Tells old.live k.live heard.rows) (sym (same_known refuses first old start held visits s)) h.live)
        (subst (λ (k : Known). TellsFirst old.statements (live_rows k.live heard.rows)) (sym (same_known refuses first old start held visits s)) h.statements)

    row_live : Tells mid.live known.live row_heard.rows
    row_live = subst (λ (k : Known). Tells mid.live k.live row_heard.rows) (same_known refuses first old start held visits s) row_taken.live

    row_statements : TellsFirst mid.statements (live_rows known.live row_heard.rows)
    row_statements = subst (λ (k : Known). TellsFirst mid.statements (live_rows k.live row_heard.rows)) (same_known refuses first old start held visits s) row_taken.statements

    abbrev told_places : List CodePlace
    told_places = map (λ (q : Row). place_at (heard.path q.file) q) (if taken then r ∷ [] else [])

    places_now : current_places known row_heard ≡ current_places known heard ++ told_places
    places_now =
        ap (map (λ (q : Row). place_at (heard.path q.file) q))
        (subst (λ (k : Known). places_after [] (live_rows k.live row_heard.rows)
        ≡ places_after [] (live_rows k.live heard.rows) ++ (if taken then r ∷ [] else [])) (same_known refuses first old start held visits s) row_taken.places)
        ∙ map-append (λ (q : Row). place_at (heard.path q.file) q) (places_after [] (live_rows known.live heard.rows))
        (if taken then r ∷ [] else [])

    -- it is no place
    pub row_passed : taken ≡ false → Seeking refuses first mid start held (visits ++ of_item (a_row header r) ∷ [])
    row_passed none =
        step refuses first old start held visits s (of_item (a_row header r)) mid (ap (λ (l : LineSeeker M). l.code) same) (ap (λ (l : LineSeeker M). l.directories) same)
        (ap (λ (l : LineSeeker M). l.strings.now) same) (ap (λ (l : LineSeeker M). l.memory.now) same)
        (λ e. record {
          live = row_live;
          statements = row_statements;
          searches = λ wanted exact made_for. (
              let stands = (s.whole not_refused).searches wanted exact made_for in
              let nothing : current_places known row_heard ≡ current_places known heard =
              places_now ∙ ap (λ (b : Bool). current_places known heard
              ++ map (λ (q : Row). place_at (heard.path q.file) q) (if b then r ∷ [] else [])) none
              ∙ append-nil (current_places known heard) in
              subst (λ (l : LineSeeker M). AllStand l.searches.items wanted exact known row_heard) (sym same) (
                stands.0,
                λ i d w lt. (
                    let at = slice_index_or old.searches.items i d in
                    subst (λ (l : List CodePlace). Stands at (slice_index_or wanted i w) exact heard.ended l heard.path
                    (heard.row_count + 1) heard.file_count) (sym nothing)
                    (more at at (slice_index_or wanted i w) exact heard.ended (current_places known heard) heard.path
                    heard.row_count heard.file_count (stands.1 i d w lt) (heard.row_count + 1) heard.file_count heard.path
                    refl (omega arith) (omega arith) (λ file known_is. known_is))),
              ));
        }) (λ e. absurd (Rattle.std.proofs.Common.true≢false (sym e ∙ ap (λ (l : LineSeeker M). l.is_refused) same ∙ not_refused)))

    -- it is one
    module _ (after new : LineSeeker M) (result : Result ⊤ NoMemory) (some : taken ≡ true)
        (added : OnOk result (AllBecome (λ a b. IsAdded a b r) mid.searches.items after.searches.items))
        (after_same : after ≡ record mid { searches = after.searches })
        (refused : OnErr result ((most : ℕ) → ((i : ℕ) (d : Search) → i < length mid.searches.items
        → length (slice_index_or mid.searches.items i d).unit.places.items + 1 ≤ most)
        → IsRefused (refuses mid.memory.now) most))
        (new_is : new ≡ record after { is_refused = after.is_refused || is_err result }) where
      abbrev to_new : LineSeeker M → LineSeeker M
      to_new l = record l { is_refused = l.is_refused || is_err result }

      row_refused_is : new.is_refused ≡ is_err result
      row_refused_is =
          ap (λ (l : LineSeeker M). l.is_refused) new_is
          ∙ ap (λ (b : Bool). b || is_err result) (ap (λ (l : LineSeeker M). l.is_refused) after_same
          ∙ ap (λ (l : LineSeeker M). l.is_refused) same ∙ not_refused)

      row_whole : new.is_refused ≡ false → Hears first new row_heard
      row_whole e = record {
        live = subst (λ (l : LineSeeker M). Tells l.live known.live row_heard.rows) (sym (new_is ∙ ap to_new after_same)) row_live;
        statements = subst (λ (l : LineSeeker M). TellsFirst l.statements (live_rows known.live row_heard.rows))
            (sym (new_is ∙ ap to_new after_same)) row_statements;
        searches = λ wanted exact made_for. (
            let stands = (s.whole not_refused).searches wanted exact made_for in
            let all = ok_of result (sym row_refused_is ∙ e) added in
            let from_old : AllBecome (λ a b. IsAdded a b r) old.searches.items after.searches.items =
            subst (λ (l : LineSeeker M). AllBecome (λ a b. IsAdded a b r) l.searches.items after.searches.items) same all in
            let one : current_places known row_heard ≡ current_places known heard ++ place_at (heard.path r.file) r ∷ [] =
            places_now ∙ ap (λ (b : Bool). current_places known heard
            ++ map (λ (q : Row). place_at (heard.path q.file) q) (if b then r ∷ [] else [])) some in
            subst (λ (l : LineSeeker M). AllStand l.searches.items wanted exact known row_heard) (sym new_is) (
              from_old.count ∙ stands.0,
              λ i d w lt. (
                  let at = slice_index_or after.searches.items i d in
                  subst (λ (l : List CodePlace). Stands at (slice_index_or wanted i w) exact heard.ended l heard.path
                  (heard.row_count + 1) heard.file_count) (sym one)
                  (adds (slice_index_or old.searches.items i d) at (slice_index_or wanted i w) exact heard.ended
                  (current_places known heard) heard.path heard.row_count heard.file_count (stands.1 i d w lt) r
                  (from_old.each i d (omega (arith, lt, stands.0))))),
            ));
      }

      row_refused : new.is_refused ≡ true → Refused refuses first (visits ++ of_item (a_row header r) ∷ [])
      row_refused e wanted exact made_for =
          let stands = (s.whole not_refused).searches wanted exact made_for in
          let n = told_room known (visits ++ of_item (a_row header r) ∷ []) in
          let few : (i : ℕ) (d : Search) → i < length mid.searches.items
          → length (slice_index_or mid.searches.items i d).unit.places.items + 1 ≤ n =
          subst (λ (l : LineSeeker M). (i : ℕ) (d : Search) → i < length l.searches.items
          → length (slice_index_or l.searches.items i d).unit.places.items + 1 ≤ n) (sym same)
          (λ i d lt. unit_few wanted exact stands i d lt) in
          of_memory refuses first old start held visits s n (subst (λ (l : LineSeeker M). IsRefused (refuses l.memory.now) n) same
          (err_of result (sym row_refused_is ∙ e) refused n few)) where
            unit_few : (wanted : List Wanted) (exact : Bool) → AllStand old.searches.items wanted exact known heard
                → (i : ℕ) (d : Search) → i < length old.searches.items
                → length (slice_index_or old.searches.items i d).unit.places.items + 1
                ≤ told_room known (visits ++ of_item (a_row header r) ∷ [])
            unit_few [] exact stands i d lt = absurd (omega (arith, lt, stands.0))
            unit_few (w ∷ wanted) exact stands i d lt =
                let here = stands.1 i d w (omega (arith, lt, stands.0)) in
                within_room refuses first old start held visits s (of_item (a_row header r)) (length (slice_index_or old.searches.items i d).unit.places.items + 1)
                (omega (arith, here.few_places))

      pub row_told : Seeking refuses first new start held (visits ++ of_item (a_row header r) ∷ [])
      row_told =
          let all = new_is ∙ ap to_new after_same in
          step refuses first old start held visits s (of_item (a_row header r)) new
          (ap (λ (l : LineSeeker M). l.code) all ∙ ap (λ (l : LineSeeker M). l.code) same)
          (ap (λ (l : LineSeeker M). l.directories) all ∙ ap (λ (l : LineSeeker M). l.directories) same)
          (ap (λ (l : LineSeeker M). l.strings.now) all ∙ ap (λ (l : LineSeeker M). l.strings.now) same)
          (ap (λ (l : LineSeeker M). l.memory.now) all ∙ ap (λ (l : LineSeeker M). l.memory.now) same) row_whole row_refused

  -- ---- the end of a unit

  module _ (after new : LineSeeker M) (h : Option HeaderData) (result : Result ⊤ NoMemory) (not_refused : old.is_refused ≡ false)
      (ended : OnOk result (AllBecome IsEnded old.searches.items after.searches.items))
      (refused : OnErr result ((most : ℕ) → ((i : ℕ) (d : Search) → i < length old.searches.items
      → length (slice_index_or old.searches.items i d).kept.places.items
      + length (slice_index_or old.searches.items i d).unit.places.items ≤ most)
      → IsRefused (refuses old.memory.now) most))
      (live : (is_live : ℕ → Bool) → Tells after.live is_live [])
      (statements : TellsFirst after.statements [])
      (same : after ≡ record old { searches = after.searches; live = after.live; statements = after.statements })
      (new_is : new ≡ record after { is_refused = after.is_refused || is_err result }) where
    end_refused_is : new.is_refused ≡ is_err result
    end_refused_is =
        ap (λ (l : LineSeeker M). l.is_refused) new_is
        ∙ ap (λ (b : Bool). b || is_err result) (ap (λ (l : LineSeeker M). l.is_refused) same ∙ not_refused)

    end_whole : new.is_refused ≡ false → Hears first new (with_visit known heard (of_end h))
    end_whole e = record {
      live = subst (λ (l : LineSeeker M). Tells l.live known.live []) (sym new_is) (live known.live);
      statements = subst (λ (l : LineSeeker M). TellsFirst l.statements (live_rows known.live [])) (sym new_is)
          (subst (TellsFirst after.statements) (sym (no_live_rows known.live)) statements);
      searches = λ wanted exact made_for. (
          let stands = (s.whole not_refused).searches wanted exact made_for in
          let all = ok_of result (sym end_refused_is ∙ e) ended in
          subst (λ (l : LineSeeker M). AllStand l.searches.items wanted exact known (with_visit known heard (of_end h))) (sym new_is) (
            all.count ∙ stands.0,
            λ i d w lt. (
                let at = slice_index_or after.searches.items i d in
                subst (λ (l : List CodePlace). Stands at (slice_index_or wanted i w) exact
                (heard.ended ++ current_places known heard) l no_path heard.row_count heard.file_count)
                (sym (no_places known.live no_path))
                (ends (slice_index_or old.searches.items i d) at (slice_index_or wanted i w) exact heard.ended
                (current_places known heard) heard.path heard.row_count heard.file_count (stands.1 i d w lt)
                (all.each i d (omega (arith, lt, stands.0))))),
          ));
    }

    end_refused : new.is_refused ≡ true → Refused refuses first (visits ++ of_end h ∷ [])
    end_refused e wanted exact made_for =
        let stands = (s.whole not_refused).searches wanted exact made_for in
        let n = told_room known (visits ++ of_end h ∷ []) in
        of_memory refuses first old start held visits s n (err_of result (sym end_refused_is ∙ e) refused n (λ i d lt. both_few wanted exact stands i d lt)) where
          both_few : (wanted : List Wanted) (exact : Bool) → AllStand old.searches.items wanted exact known heard
              → (i : ℕ) (d : Search) → i < length old.searches.items
              → length (slice_index_or old.searches.items i d).kept.places.items
              + length (slice_index_or old.searches.items i d).unit.places.items ≤ told_room known (visits ++ of_end h ∷ [])
          both_few [] exact stands i d lt = absurd (omega (arith, lt, stands.0))
          both_few (w ∷ wanted) exact stands i d lt =
              let here = stands.1 i d w (omega (arith, lt, stands.0)) in
              within_room refuses first old start held visits s (of_end h) (length (slice_index_or old.searches.items i d).kept.places.items
              + length (slice_index_or old.searches.items i d).unit.places.items) (omega (arith, here.few_places))

    pub end_told : Seeking refuses first new start held (visits ++ of_end h ∷ [])
    end_told =
        step refuses first old start held visits s (of_end h) new
        (ap (λ (l : LineSeeker M). l.code) new_is ∙ ap (λ (l : LineSeeker M). l.code) same)
        (ap (λ (l : LineSeeker M). l.directories) new_is ∙ ap (λ (l : LineSeeker M). l.directories) same)
        (ap (λ (l : LineSeeker M). l.strings.now) new_is ∙ ap (λ (l : LineSeeker M). l.strings.now) same)
        (ap (λ (l : LineSeeker M). l.memory.now) new_is ∙ ap (λ (l : LineSeeker M). l.memory.now) same) end_whole end_refused
