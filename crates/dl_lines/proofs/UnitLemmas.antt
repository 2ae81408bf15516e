-- What visits of a section tell are the places of its units.
use Rattle.std.proofs.Common.{◌≡◌, ℕ, ◌+◌, Bool, true, false, List, [], ◌∷◌, ◌++◌, length, flat_map, map, Option, Some, None, refl, sym, ap, ap₂, ◌∙◌, append_assoc, append-nil, arith}
use Rattle.std.specs.Prelude.{option_map}
use Rattle.std.specs.List.{concat}
use Rattle.dl_head.specs.declared.dialect.Dialect.{Dialect}
use Rattle.dl_field.specs.HeaderData.{HeaderData}
use Rattle.dl_head.specs.declared.header.HeaderLengths.{HeaderLengths}
use Rattle.dl_head.specs.Header.{foreign_in, header_in, lengths_in}
use Rattle.dl_rows.specs.Items.{Item, a_byte, a_row, an_operation, items_in, items_later, rows_of_items, unit_items}
use Rattle.dl_rows.proofs.ItemLemmas.{items_are_these}
use Rattle.dl_rows.specs.declared.row.Row.{Row}
use Rattle.dl_rows.specs.declared.reader.Event.{Event}
use Rattle.dl_rows.specs.declared.reader.Event.TheVariants as event
use Rattle.dl_rows.specs.LineUnit.{rows_in, rows_later, unit_rows, ends_open, events, events_of}
use Rattle.dl_rows.proofs.ReaderLemmas.{foreign_no_header}
use Rattle.dl_sections.specs.Section.{header_read, HeaderRead, read_by, Visit, of_header, of_item, of_end, header_of}
use Rattle.dl_sections.specs.Section.{header_visit, event_visits, visits, open_visit, unit_visits, units_visits}
use Rattle.dl_sections.specs.Section.{section_visits}
use Rattle.dl_sections.proofs.EventLemmas.{rows_visited}
use Rattle.dl_addr.proofs.TextLemmas.{none_is_some}
use Rattle.dl_lines.specs.Places.{CodePlace, Known, path_in, places_from, places_in, places_of_rows}
use Rattle.dl_lines.specs.Seeking.{Heard, current_places, heard_after, no_path, nothing_heard, with_visit}
use Rattle.dl_lines.proofs.HeardLemmas.{heard_more, no_places}

module _ (known : Known) where
  -- a unit has ended, which has these places
  pub record IsAfter (old new : Heard) (places : List CodePlace) : Type 0 where
    pub ended : new.ended ≡ old.ended ++ places
    pub path : new.path ≡ no_path
    pub rows : new.rows ≡ []

  -- the rows among what the bytes of a program come to
  of_items : (heard : Heard) (items : List Item) (more : List Visit)
      → heard_after known heard (map of_item items ++ more)
      ≡ heard_after known (record heard {
        rows = heard.rows ++ rows_of_items items;
        row_count = heard.row_count + length (rows_of_items items);
      }) more
  of_items heard [] more =
      ap₂ (λ (l : List Row) (n : ℕ). heard_after known (record heard { rows = l; row_count = n }) more)
      (sym (append-nil heard.rows)) (omega arith)
  of_items heard (a_byte x ∷ items) more = of_items heard items more
  of_items heard (an_operation header o ∷ items) more = of_items heard items more
  of_items heard (a_row header r ∷ items) more =
      of_items (with_visit known heard (of_item (a_row header r))) items more
      ∙ ap₂ (λ (l : List Row) (n : ℕ). heard_after known (record heard { rows = l; row_count = n }) more)
      (append_assoc heard.rows (r ∷ []) (rows_of_items items)) (omega arith)

  at_end : (heard : Heard) (is_open : Bool) (h : Option HeaderData)
      → IsAfter heard (heard_after known heard (open_visit is_open ++ of_end h ∷ [])) (current_places known heard)
  at_end heard true h = record { ended = refl; path = refl; rows = refl }
  at_end heard false h = record { ended = refl; path = refl; rows = refl }

  nothing_at_end : (heard : Heard) (is_open : Bool) (h : Option HeaderData) (path : ℕ → Option (List ℕ)) → heard.rows ≡ []
      → IsAfter heard (heard_after known heard (open_visit is_open ++ of_end h ∷ [])) (places_of_rows known.live path [])
  nothing_at_end heard is_open h path none =
      let a = at_end heard is_open h in
      record {
        ended = a.ended ∙ ap (λ (l : List CodePlace). heard.ended ++ l)
            (ap (places_of_rows known.live heard.path) none ∙ no_places known.live heard.path ∙ sym (no_places known.live path));
        path = a.path;
        rows = a.rows;
      }

  after_items : (heard : Heard) (offset : ℕ) (lengths : HeaderLengths) (h : HeaderData) (items : List Item) (is_open : Bool)
      → IsAfter heard (heard_after known (with_visit known heard (of_header offset lengths h))
      (map of_item items ++ (open_visit is_open ++ of_end (Some h) ∷ [])))
      (places_of_rows known.live (path_in known offset (Some h)) (rows_of_items items))
  after_items heard offset lengths h items is_open =
      let rows = rows_of_items items in
      let started = with_visit known heard (of_header offset lengths h) in
      let told = record started { rows = rows; row_count = started.row_count + length rows } in
      let same = of_items started items (open_visit is_open ++ of_end (Some h) ∷ []) in
      let a = at_end told is_open (Some h) in
      record {
        ended = ap (λ (t : Heard). t.ended) same ∙ a.ended;
        path = ap (λ (t : Heard). t.path) same ∙ a.path;
        rows = ap (λ (t : Heard). t.rows) same ∙ a.rows;
      }

  of_parts : (dialect : Dialect) (heard : Heard) (offset : ℕ) (is_open : Bool) (lengths : HeaderData → HeaderLengths)
      (version : Option ℕ) (parts : Option (HeaderData × List ℕ)) → heard.rows ≡ []
      → ((v : ℕ) → version ≡ Some v → parts ≡ None)
      → IsAfter heard (heard_after known heard ((flat_map (event_visits offset (read_by lengths parts))
      (events_of dialect.order version parts) ++ map of_item (items_later dialect.order parts))
      ++ (open_visit is_open ++ of_end (option_map (λ p. p.0) parts) ∷ [])))
      (places_of_rows known.live (path_in known offset (option_map (λ p. p.0) parts)) (rows_later dialect.order parts))
  of_parts dialect heard offset is_open lengths (Some v) None none only =
      nothing_at_end heard is_open None (path_in known offset None) none
  of_parts dialect heard offset is_open lengths (Some v) (Some (h, program)) none only =
      absurd (let e = only v refl in none_is_some (sym e))
  of_parts dialect heard offset is_open lengths None None none only =
      nothing_at_end heard is_open None (path_in known offset None) none
  of_parts dialect heard offset is_open lengths None (Some (h, program)) none only =
      let rows = rows_in dialect.order h.params program in
      let items = items_in dialect.order h program in
      let end = open_visit is_open ++ of_end (Some h) ∷ [] in
      let started = with_visit known heard (of_header offset (lengths h) h) in
      let same = ap (λ (l : List Visit). heard_after known started ((l ++ map of_item items) ++ end))
      (rows_visited offset (read_by lengths (Some (h, program))) rows) in
      let a = after_items heard offset (lengths h) h items is_open in
      let told = ap (places_of_rows known.live (path_in known offset (Some h))) (items_are_these dialect.order h program).2 in
      record {
        ended = ap (λ (t : Heard). t.ended) same ∙ a.ended ∙ ap (λ (l : List CodePlace). heard.ended ++ l) told;
        path = ap (λ (t : Heard). t.path) same ∙ a.path;
        rows = ap (λ (t : Heard). t.rows) same ∙ a.rows;
      }

  pub of_unit : (dialect : Dialect) (heard : Heard) (offset : ℕ) (u : List ℕ) → heard.rows ≡ []
      → IsAfter heard (heard_after known heard (unit_visits dialect offset u))
      (places_of_rows known.live (path_in known offset (header_of dialect u)) (unit_rows dialect u))
  of_unit dialect heard offset u none =
      of_parts dialect heard offset (ends_open (unit_rows dialect u)) (lengths_in dialect u) (foreign_in dialect u)
      (header_in dialect u) none (λ v. foreign_no_header dialect u v)

  of_units : (dialect : Dialect) (heard : Heard) (offset : ℕ) (units : List (List ℕ)) (more : List Visit) → heard.rows ≡ []
      → ((t : Heard) → (heard_after known t more).ended ≡ t.ended)
      → (heard_after known heard (units_visits dialect offset units ++ more)).ended
      ≡ heard.ended ++ places_from dialect known offset units
  of_units dialect heard offset [] more none same = same heard ∙ sym (append-nil heard.ended)
  of_units dialect heard offset (u ∷ units) more none same =
      let own = unit_visits dialect offset u in
      let others = units_visits dialect (offset + length u) units in
      let mid = heard_after known heard own in
      let a = of_unit dialect heard offset u none in
      let places = places_of_rows known.live (path_in known offset (header_of dialect u)) (unit_rows dialect u) in
      ap (λ (l : List Visit). (heard_after known heard l).ended) (append_assoc own others more)
      ∙ ap (λ (t : Heard). t.ended) (heard_more known heard own (others ++ more))
      ∙ of_units dialect mid (offset + length u) units more a.rows same
      ∙ ap (λ (l : List CodePlace). l ++ places_from dialect known (offset + length u) units) a.ended
      ∙ append_assoc heard.ended places (places_from dialect known (offset + length u) units)

  header_same : (heard : Heard) (offset : ℕ) (h : Option HeaderRead) (more : List Visit)
      → ((t : Heard) → (heard_after known t more).ended ≡ t.ended)
      → (heard_after known heard (header_visit offset h ++ more)).ended ≡ heard.ended
  header_same heard offset None more same = same heard
  header_same heard offset (Some h) more same = same (with_visit known heard (of_header offset h.lengths h.header))

  opened_same : (offset : ℕ) (h : Option HeaderRead) (es : List Event) (heard : Heard)
      → (heard_after known heard (flat_map (event_visits offset h) es)).ended ≡ heard.ended
  opened_same offset h [] heard = refl
  opened_same offset h (event.More ∷ es) heard = opened_same offset h es heard
  opened_same offset h (event.Header ∷ es) heard =
      header_same heard offset h (flat_map (event_visits offset h) es) (λ t. opened_same offset h es t)
  opened_same offset h (event.Foreign v ∷ es) heard = opened_same offset h es heard
  opened_same offset h (event.Row r ∷ es) heard = opened_same offset h es heard
  opened_same offset h (event.NoMemory ∷ es) heard = opened_same offset h es heard
  opened_same offset h (event.End ∷ es) heard = opened_same offset h es heard

  items_same : (items : List Item) (heard : Heard) → (heard_after known heard (map of_item items)).ended ≡ heard.ended
  items_same [] heard = refl
  items_same (a_byte x ∷ items) heard = items_same items heard
  items_same (an_operation header o ∷ items) heard = items_same items heard
  items_same (a_row header r ∷ items) heard = items_same items (with_visit known heard (of_item (a_row header r)))

  -- before its end a unit has no places
  pub front_same : (dialect : Dialect) (offset : ℕ) (b : List ℕ) (heard : Heard)
      → (heard_after known heard (visits dialect offset b)).ended ≡ heard.ended
  front_same dialect offset b heard =
      let opened = flat_map (event_visits offset (header_read dialect b)) (events dialect b) in
      ap (λ (t : Heard). t.ended) (heard_more known heard opened (map of_item (unit_items dialect b)))
      ∙ items_same (unit_items dialect b) (heard_after known heard opened)
      ∙ opened_same offset (header_read dialect b) (events dialect b) heard

  -- of a section
  pub of_section : (dialect : Dialect) (units : List (List ℕ)) (b : List ℕ)
      → (heard_after known nothing_heard (section_visits dialect units b)).ended ≡ places_in dialect known units
  of_section dialect units b =
      of_units dialect nothing_heard 0 units (visits dialect (length (concat units)) b) refl
      (λ t. front_same dialect (length (concat units)) b t)
