-- Events of a unit, and the visits, rows and versions that they tell.
use Rattle.dl_sections.proofs.Names.{◌++◌, ◌∙◌, ◌∷◌, ◌≡◌, ◌⊎◌, [], ap, append-nil, append_assoc, inl, inr, map-append, of_item, Dialect, Event, event_visits, events, events_of}
use Rattle.dl_sections.proofs.Names.{false, flat_map, flat_map-append, foreign_in, foreign_no_header, found_is_header, header_in, header_of, header_read}
use Rattle.dl_sections.proofs.Names.{header_on, HeaderData, HeaderRead, is_foreign, is_some, lengths_in, lengths_stay, List, map, no_rows, None, Option}
use Rattle.dl_sections.proofs.Names.{option_map, Order, own_events, refl, Row, row_told, rows_in, rows_later, rows_told}
use Rattle.dl_sections.proofs.Names.{Some, sym, told, unit_rows, Visit, visits, ℕ}
use Rattle.dl_sections.proofs.Names.event
use Rattle.dl_rows.specs.Items.{Item, unit_items}
use Rattle.dl_sections.proofs.Fronts.{empty_both, none_is_some, value_same}

-- ---- rows

pub rows_told-rows : (rows : List Row) → rows_told (map event.Row rows) ≡ rows
rows_told-rows [] = refl
rows_told-rows (r ∷ rows) = ap (λ (l : List Row). r ∷ l) (rows_told-rows rows)

pub rows_told-append : (es more : List Event) → rows_told (es ++ more) ≡ rows_told es ++ rows_told more
rows_told-append [] more = refl
rows_told-append (e ∷ es) more =
    rw (rows_told-append es more) (simp append_assoc)

rows_of_own : (order : Order) (parts : Option (HeaderData × List ℕ))
    → rows_told (own_events order parts) ≡ rows_later order parts
rows_of_own order None = refl
rows_of_own order (Some (h, program)) = rows_told-rows (rows_in order h.params program)

rows_by : (dialect : Dialect) (b : List ℕ) (version : Option ℕ) → foreign_in dialect b ≡ version
    → rows_told (events_of dialect.order version (header_in dialect b)) ≡ unit_rows dialect b
rows_by dialect b None is = rows_of_own dialect.order (header_in dialect b)
rows_by dialect b (Some v) is = sym (no_rows dialect b (foreign_no_header dialect b v is))

-- the rows of the events are those of the unit
pub rows_of_events : (dialect : Dialect) (b : List ℕ) → rows_told (events dialect b) ≡ unit_rows dialect b
rows_of_events dialect b = rows_by dialect b (foreign_in dialect b) refl

-- an event that tells no row
pub none_told : (e : Event) → row_told e ≡ [] → rows_told (told e) ≡ []
none_told (event.Row r) none = none
none_told e none = refl

-- rows are among the items of a program, and no visits of their own
pub rows_visited : (offset : ℕ) (h : Option HeaderRead) (rows : List Row)
    → flat_map (event_visits offset h) (map event.Row rows) ≡ []
rows_visited offset h [] = refl
rows_visited offset h (r ∷ rows) = rows_visited offset h rows

-- ---- versions

pub no_version : (rows : List Row) → is_foreign (map event.Row rows) ≡ false
no_version [] = refl
no_version (r ∷ rows) = no_version rows

foreign_of_own : (order : Order) (parts : Option (HeaderData × List ℕ)) → is_foreign (own_events order parts) ≡ false
foreign_of_own order None = refl
foreign_of_own order (Some parts) = no_version (rows_in order parts.0.params parts.1)

foreign_by : (order : Order) (version : Option ℕ) (parts : Option (HeaderData × List ℕ))
    → is_foreign (events_of order version parts) ≡ is_some version
foreign_by order None parts = foreign_of_own order parts
foreign_by order (Some v) parts = refl

pub foreign_of_events : (dialect : Dialect) (b : List ℕ)
    → is_foreign (events dialect b) ≡ is_some (foreign_in dialect b)
foreign_of_events dialect b = foreign_by dialect.order (foreign_in dialect b) (header_in dialect b)

-- ---- visits

-- the header makes no difference where none was told
headerless : (offset : ℕ) (h : Option HeaderRead) (order : Order) (version : Option ℕ)
    → flat_map (event_visits offset h) (events_of order version None)
    ≡ flat_map (event_visits offset None) (events_of order version None)
headerless offset h order None = refl
headerless offset h order (Some v) = refl

-- more bytes don't change how long a unit and its header are
pub lengths_on : (dialect : Dialect) (b x : List ℕ) (h : HeaderData) (program : List ℕ)
    → header_in dialect b ≡ Some (h, program) → lengths_in dialect (b ++ x) h ≡ lengths_in dialect b h
lengths_on dialect b x h program is =
    let f = found_is_header dialect h b program is in
    ap (λ (w : List ℕ). lengths_in dialect w h) (ap (λ (w : List ℕ). w ++ x) f.1 ∙ append_assoc f.0 program x)
    ∙ lengths_stay dialect h h f.0 (program ++ x) f.2
    ∙ sym (ap (λ (w : List ℕ). lengths_in dialect w h) f.1 ∙ lengths_stay dialect h h f.0 program f.2)

-- the visits that events are
abbrev opened : (dialect : Dialect) (offset : ℕ) (b x : List ℕ) → List Event → List Visit
opened dialect offset b x es = flat_map (event_visits offset (header_read dialect (b ++ x))) es

same_opened : (dialect : Dialect) (offset : ℕ) (b x : List ℕ) (parts : Option (HeaderData × List ℕ))
    → header_in dialect b ≡ parts
    → opened dialect offset b x (events dialect b) ≡ flat_map (event_visits offset (header_read dialect b)) (events dialect b)
same_opened dialect offset b x None is =
    rw is (headerless offset (header_read dialect (b ++ x)) dialect.order (foreign_in dialect b))
same_opened dialect offset b x (Some (h, program)) is =
    rw (header_on dialect b x h program is, is, lengths_on dialect b x h program is) refl

-- where the events and the items grow, so do the visits; what comes before a program comes before all items
pub visits_grow : (dialect : Dialect) (offset : ℕ) (b x : List ℕ) (told : List Event) (items : List Item)
    → events dialect (b ++ x) ≡ events dialect b ++ told
    → unit_items dialect (b ++ x) ≡ unit_items dialect b ++ items
    → (opened dialect offset b x told ≡ []) ⊎ (unit_items dialect (b ++ x) ≡ [])
    → visits dialect offset (b ++ x) ≡ (visits dialect offset b ++ map of_item items) ++ opened dialect offset b x told
visits_grow dialect offset b x told items grows grown when =
    let before = flat_map (event_visits offset (header_read dialect b)) (events dialect b) in
    let both : opened dialect offset b x (events dialect (b ++ x)) ≡ before ++ opened dialect offset b x told =
    rw grows (flat_map-append (event_visits offset (header_read dialect (b ++ x))) (events dialect b) told
    ∙ rw (same_opened dialect offset b x (header_in dialect b) refl) refl) in
    by both when
  where
    by : opened dialect offset b x (events dialect (b ++ x))
        ≡ flat_map (event_visits offset (header_read dialect b)) (events dialect b) ++ opened dialect offset b x told
        → (opened dialect offset b x told ≡ []) ⊎ (unit_items dialect (b ++ x) ≡ [])
        → visits dialect offset (b ++ x) ≡ (visits dialect offset b ++ map of_item items) ++ opened dialect offset b x told
    by both (inl none) =
        rw (both, none, grown) (simp (append-nil, map-append, append_assoc))
    by both (inr nothing) =
        let parts = empty_both (unit_items dialect b) items (sym grown ∙ nothing) in
        rw (both, nothing, parts.0, parts.1) (simp (append-nil, append_assoc))

-- ---- headers

-- the bytes that a header stands in front of
pub header_parts : (dialect : Dialect) (b : List ℕ) (h : HeaderData) → header_of dialect b ≡ Some h
    → (program : List ℕ) × (header_in dialect b ≡ Some (h, program))
header_parts dialect b h is = by (header_in dialect b) refl is where
  by : (parts : Option (HeaderData × List ℕ)) → header_in dialect b ≡ parts → option_map (λ p. p.0) parts ≡ Some h
      → (program : List ℕ) × (header_in dialect b ≡ Some (h, program))
  by None e some = absurd (none_is_some some)
  by (Some (g, program)) e some = let same : g ≡ h = value_same g h some in (program, rw same at e)
