-- What is located in visits, and in the units of a section.
use Rattle.std.proofs.Common.{◌≡◌, ◌⊎◌, ℕ, ◌+◌, Bool, true, false, List, [], ◌∷◌, ◌++◌, length, flat_map, map}
use Rattle.std.proofs.Common.{Option, Some, None, refl, sym, ap, ap₂, ◌∙◌, append_assoc}
use Rattle.std.specs.Prelude.{if◌then◌else◌, option_map}
use Rattle.std.specs.List.{concat}
use Rattle.std.specs.Option.{option_or}
use Rattle.dl_head.specs.declared.dialect.Dialect.{Dialect}
use Rattle.dl_field.specs.HeaderData.{HeaderData}
use Rattle.dl_head.specs.declared.header.HeaderLengths.{HeaderLengths}
use Rattle.dl_head.specs.Header.{foreign_in, header_in, lengths_in}
use Rattle.dl_rows.specs.declared.row.Row.{Row}
use Rattle.dl_rows.specs.declared.reader.Event.{Event}
use Rattle.dl_rows.specs.declared.reader.Event.TheVariants as event
use Rattle.dl_rows.specs.LineUnit.{rows_in, rows_later, unit_rows, ends_open, events, events_of}
use Rattle.dl_rows.proofs.ReaderLemmas.{foreign_no_header}
use Rattle.dl_look.specs.declared.place.Place.{Place}
use Rattle.dl_look.specs.Answer.{answer}
use Rattle.dl_look.specs.LiveRows.{live_rows}
use Rattle.dl_look.specs.Units.{answer_of_units}
use Rattle.dl_look.proofs.LiveLemmas.{of_live_rows}
use Rattle.dl_sections.specs.Copying.{offset_after}
use Rattle.dl_sections.specs.RowsTold.{rows_after}
use Rattle.dl_sections.specs.Section.{header_read, HeaderRead, read_by, Visit, of_header, of_version, of_item, of_open, of_end, of_damage, header_of}
use Rattle.dl_sections.specs.Section.{header_visit, event_visits, visits, open_visit, end_visits, unit_visits, units_visits}
use Rattle.dl_sections.specs.Section.{section_visits}
use Rattle.dl_rows.proofs.ItemLemmas.{items_are_these}
use Rattle.dl_rows.specs.Items.{Item, a_byte, a_row, an_operation, items_in, items_later, rows_of_items, unit_items}
use Rattle.dl_sections.proofs.EventLemmas.{rows_visited}
use Rattle.dl_sections.proofs.Fronts.{or_assoc, or_none}
use Rattle.dl_addr.specs.Locations.{Located, located, located_from, located_in}
use Rattle.dl_addr.specs.Locating.{ended_rows, located_after, located_under}

-- ---- visits one after the other

pub offset_after-append : (n : ℕ) (a b : List Visit) → offset_after n (a ++ b) ≡ offset_after (offset_after n a) b
offset_after-append n [] b = refl
offset_after-append n (of_header m l h ∷ a) b = offset_after-append m a b
offset_after-append n (of_version m v ∷ a) b = offset_after-append n a b
offset_after-append n (of_item item ∷ a) b = offset_after-append n a b
offset_after-append n (of_open ∷ a) b = offset_after-append n a b
offset_after-append n (of_end h ∷ a) b = offset_after-append n a b
offset_after-append n (of_damage unit m k ∷ a) b = offset_after-append n a b

module _ (live : ℕ → Bool) where
  pub ended_rows-append : (rows : List Row) (a b : List Visit)
      → ended_rows live rows (a ++ b) ≡ ended_rows live rows a ++ ended_rows live (rows_after rows a) b
  ended_rows-append rows [] b = refl
  ended_rows-append rows (of_header m l h ∷ a) b = ended_rows-append rows a b
  ended_rows-append rows (of_version m v ∷ a) b = ended_rows-append rows a b
  ended_rows-append rows (of_item (a_byte n) ∷ a) b = ended_rows-append rows a b
  ended_rows-append rows (of_item (an_operation header o) ∷ a) b = ended_rows-append rows a b
  ended_rows-append rows (of_item (a_row header r) ∷ a) b = ended_rows-append (rows ++ r ∷ []) a b
  ended_rows-append rows (of_open ∷ a) b = ended_rows-append rows a b
  ended_rows-append rows (of_end h ∷ a) b =
      ap (λ (l : List (List Row)). live_rows live rows ∷ l) (ended_rows-append [] a b)
  ended_rows-append rows (of_damage unit m k ∷ a) b = ended_rows-append [] a b

  -- no rows are live where there are none
  pub no_live_rows : live_rows live [] ≡ []
  no_live_rows = by (live 0) where
    by : (b : Bool) → ◌≡◌ {A = List Row} (if b then [] else []) []
    by true = refl
    by false = refl

  module _ (x : Place) where
    pub located_after-append : (rows : List Row) (n : ℕ) (a b : List Visit)
        → located_after live x rows n (a ++ b)
        ≡ option_or (located_after live x rows n a) (located_after live x (rows_after rows a) (offset_after n a) b)
    located_after-append rows n [] b = refl
    located_after-append rows n (of_header m l h ∷ a) b = located_after-append rows m a b
    located_after-append rows n (of_version m v ∷ a) b = located_after-append rows n a b
    located_after-append rows n (of_item (a_byte m) ∷ a) b = located_after-append rows n a b
    located_after-append rows n (of_item (an_operation header o) ∷ a) b = located_after-append rows n a b
    located_after-append rows n (of_item (a_row header r) ∷ a) b = located_after-append (rows ++ r ∷ []) n a b
    located_after-append rows n (of_open ∷ a) b = located_after-append rows n a b
    located_after-append rows n (of_end h ∷ a) b =
        ap (option_or (located_under live x rows n h)) (located_after-append [] n a b)
        ∙ sym (or_assoc (located_under live x rows n h) (located_after live x [] n a)
        (located_after live x (rows_after [] a) (offset_after n a) b))
    located_after-append rows n (of_damage unit m k ∷ a) b = located_after-append [] n a b

    row_of_or : (n : ℕ) (h : Option HeaderData) (a : Option Row) (tail : Option Located) (rest : Option Row)
        → rest ≡ option_map (λ (l : Located). l.row) tail
        → option_or a rest
        ≡ option_map (λ (l : Located). l.row)
        (option_or (option_map (λ (r : Row). record { row = r; header = h; unit = n }) a) tail)
    row_of_or n h None tail rest e = e
    row_of_or n h (Some r) tail rest e = refl

    -- the rows that are located are what the units that ended answer
    pub rows_located : (rows : List Row) (n : ℕ) (visits : List Visit)
        → answer_of_units (ended_rows live rows visits) x
        ≡ option_map (λ (l : Located). l.row) (located_after live x rows n visits)
    rows_located rows n [] = refl
    rows_located rows n (of_header m l h ∷ a) = rows_located rows m a
    rows_located rows n (of_version m v ∷ a) = rows_located rows n a
    rows_located rows n (of_item (a_byte m) ∷ a) = rows_located rows n a
    rows_located rows n (of_item (an_operation header o) ∷ a) = rows_located rows n a
    rows_located rows n (of_item (a_row header r) ∷ a) = rows_located (rows ++ r ∷ []) n a
    rows_located rows n (of_open ∷ a) = rows_located rows n a
    rows_located rows n (of_end h ∷ a) =
        row_of_or n h (answer (live_rows live rows) x) (located_after live x [] n a)
        (answer_of_units (ended_rows live [] a) x) (rows_located [] n a)
    rows_located rows n (of_damage unit m k ∷ a) = rows_located [] n a

    -- ---- the units of a section

    none_of_header : (offset : ℕ) (h : Option HeaderRead) (rows : List Row) (n : ℕ) (more : List Visit)
        → ((m : ℕ) → located_after live x rows m more ≡ None)
        → located_after live x rows n (header_visit offset h ++ more) ≡ None
    none_of_header offset None rows n more none = none n
    none_of_header offset (Some h) rows n more none = none offset

    none_of_visits : (offset : ℕ) (h : Option HeaderRead) (rows : List Row) (n : ℕ) (es : List Event)
        → located_after live x rows n (flat_map (event_visits offset h) es) ≡ None
    none_of_visits offset h rows n [] = refl
    none_of_visits offset h rows n (event.More ∷ es) = none_of_visits offset h rows n es
    none_of_visits offset h rows n (event.Header ∷ es) =
        none_of_header offset h rows n (flat_map (event_visits offset h) es) (λ m. none_of_visits offset h rows m es)
    none_of_visits offset h rows n (event.Foreign v ∷ es) = none_of_visits offset h rows n es
    none_of_visits offset h rows n (event.Row r ∷ es) = none_of_visits offset h rows n es
    none_of_visits offset h rows n (event.NoMemory ∷ es) = none_of_visits offset h rows n es
    none_of_visits offset h rows n (event.End ∷ es) = none_of_visits offset h rows n es

    located_of_end : (rows : List Row) (n : ℕ) (is_open : Bool) (h : Option HeaderData)
        → located_after live x rows n (open_visit is_open ++ of_end h ∷ []) ≡ located_under live x rows n h
    located_of_end rows n true h = or_none (located_under live x rows n h)
    located_of_end rows n false h = or_none (located_under live x rows n h)

    located_of_items : (begun : List Row) (items : List Item) (n : ℕ) (more : List Visit)
        → located_after live x begun n (map of_item items ++ more)
        ≡ located_after live x (begun ++ rows_of_items items) n more
    located_of_items begun [] n more =
        ap (λ (l : List Row). located_after live x l n more) (sym (Rattle.std.proofs.Common.append-nil begun))
    located_of_items begun (a_byte m ∷ items) n more = located_of_items begun items n more
    located_of_items begun (an_operation header o ∷ items) n more = located_of_items begun items n more
    located_of_items begun (a_row header r ∷ items) n more =
        located_of_items (begun ++ r ∷ []) items n more
        ∙ ap (λ (l : List Row). located_after live x l n more) (append_assoc begun (r ∷ []) (rows_of_items items))

    -- what the bytes of a program come to answers nothing before its end
    none_of_items : (rows : List Row) (n : ℕ) (items : List Item) → located_after live x rows n (map of_item items) ≡ None
    none_of_items rows n [] = refl
    none_of_items rows n (a_byte m ∷ items) = none_of_items rows n items
    none_of_items rows n (an_operation header o ∷ items) = none_of_items rows n items
    none_of_items rows n (a_row header r ∷ items) = none_of_items (rows ++ r ∷ []) n items

    nothing_under : (n : ℕ) (h : Option HeaderData) → located_under live x [] n h ≡ None
    nothing_under n h =
        ap (λ (l : List Row). option_map {U = Located} (λ r. record { row = r; header = h; unit = n }) (answer l x))
        no_live_rows

    of_unit : (dialect : Dialect) (n offset : ℕ) (is_open : Bool) (lengths : HeaderData → HeaderLengths)
        (version : Option ℕ) (parts : Option (HeaderData × List ℕ)) → ((v : ℕ) → version ≡ Some v → parts ≡ None)
        → located_after live x [] n ((flat_map (event_visits offset (read_by lengths parts))
        (events_of dialect.order version parts) ++ map of_item (items_later dialect.order parts)) ++ (open_visit is_open ++ of_end (option_map (λ p. p.0) parts) ∷ []))
        ≡ located_under live x (rows_later dialect.order parts) offset (option_map (λ p. p.0) parts)
    of_unit dialect n offset is_open lengths (Some v) None only =
        located_of_end [] n is_open None ∙ nothing_under n None ∙ sym (nothing_under offset None)
    of_unit dialect n offset is_open lengths (Some v) (Some (h, program)) only =
        absurd (let e = only v refl in Rattle.dl_addr.proofs.TextLemmas.none_is_some (sym e))
    of_unit dialect n offset is_open lengths None None only =
        located_of_end [] n is_open None ∙ nothing_under n None ∙ sym (nothing_under offset None)
    of_unit dialect n offset is_open lengths None (Some (h, program)) only =
        let rows = rows_in dialect.order h.params program in
        let items = items_in dialect.order h program in
        let end = open_visit is_open ++ of_end (Some h) ∷ [] in
        ap (λ (l : List Visit). located_after live x [] offset ((l ++ map of_item items) ++ end))
        (rows_visited offset (read_by lengths (Some (h, program))) rows)
        ∙ located_of_items [] items offset end
        ∙ ap (λ (l : List Row). located_after live x l offset end) (items_are_these dialect.order h program).2
        ∙ located_of_end rows offset is_open (Some h)

    pub located_of_unit : (dialect : Dialect) (n offset : ℕ) (u : List ℕ)
        → located_after live x [] n (unit_visits dialect offset u) ≡ located_in dialect live offset u x
    located_of_unit dialect n offset u =
        of_unit dialect n offset (ends_open (unit_rows dialect u)) (lengths_in dialect u) (foreign_in dialect u) (header_in dialect u)
        (λ v. foreign_no_header dialect u v)
        ∙ ap (option_map {U = Located} (λ r. record { row = r; header = header_of dialect u; unit = offset }))
        (of_live_rows live (unit_rows dialect u) x)

    rows_of_end : (rows : List Row) (is_open : Bool) (h : Option HeaderData)
        → rows_after rows (open_visit is_open ++ of_end h ∷ []) ≡ []
    rows_of_end rows true h = refl
    rows_of_end rows false h = refl

    pub rows_of_unit : (dialect : Dialect) (offset : ℕ) (u : List ℕ) → rows_after [] (unit_visits dialect offset u) ≡ []
    rows_of_unit dialect offset u =
        Rattle.dl_sections.proofs.VisitLemmas.rows_after-append [] (visits dialect offset u) (end_visits dialect u)
        ∙ rows_of_end (rows_after [] (visits dialect offset u)) (ends_open (unit_rows dialect u)) (header_of dialect u)

    pub located_of_units : (dialect : Dialect) (n offset : ℕ) (units : List (List ℕ)) (more : List Visit)
        → ((m : ℕ) → located_after live x [] m more ≡ None)
        → located_after live x [] n (units_visits dialect offset units ++ more)
        ≡ located_from dialect live offset units x
    located_of_units dialect n offset [] more none = none n
    located_of_units dialect n offset (u ∷ units) more none =
        let own = unit_visits dialect offset u in
        let others = units_visits dialect (offset + length u) units in
        ap (located_after live x [] n) (append_assoc own others more)
        ∙ located_after-append [] n own (others ++ more)
        ∙ ap (λ (l : List Row). option_or (located_after live x [] n own)
        (located_after live x l (offset_after n own) (others ++ more))) (rows_of_unit dialect offset u)
        ∙ ap₂ option_or (located_of_unit dialect n offset u)
        (located_of_units dialect (offset_after n own) (offset + length u) units more none)

    -- before its end a unit answers nothing
    none_of_front : (dialect : Dialect) (offset m : ℕ) (b : List ℕ)
        → located_after live x [] m (visits dialect offset b) ≡ None
    none_of_front dialect offset m b =
        let opened = flat_map (event_visits offset (header_read dialect b)) (events dialect b) in
        located_after-append [] m opened (map of_item (unit_items dialect b))
        ∙ ap₂ option_or (none_of_visits offset (header_read dialect b) [] m (events dialect b))
        (none_of_items (rows_after [] opened) (offset_after m opened) (unit_items dialect b))

    -- what is located in the visits of a section is what its units answer
    pub located_of_section : (dialect : Dialect) (n : ℕ) (units : List (List ℕ)) (b : List ℕ)
        → located_after live x [] n (section_visits dialect units b) ≡ located dialect live units x
    located_of_section dialect n units b =
        located_of_units dialect n 0 units (visits dialect (length (concat units)) b)
        (λ m. none_of_front dialect (length (concat units)) m b)
