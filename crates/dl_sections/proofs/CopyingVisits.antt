-- What is copied of visits one after the other, and of those of a unit.
use Rattle.dl_sections.proofs.Names.{◌++◌, ◌∙◌, ◌∷◌, ◌≡◌, ◌⊎◌, [], ap, append-nil, append_assoc, Bool, comes_to, Dialect}
use Rattle.dl_sections.proofs.Names.{false, fold_stays, foreign_in, foreign_no_header, goes, header_in, header_of}
use Rattle.dl_sections.proofs.Names.{HeaderData, inl, inr, lengths_in, List, Made, map, None, of_header, of_item, of_open, of_version}
use Rattle.dl_sections.proofs.Names.{open_visit, Option, Order, parts, refl, Row, rows_in, RunFault, Some, stopped, sym}
use Rattle.dl_sections.proofs.Names.{true, unit_rows, Visit, visited, visits, ℕ}
use Rattle.dl_sections.proofs.Names.fault
use Rattle.dl_sections.proofs.Names.{subst}
use Rattle.dl_rows.proofs.ItemLemmas.{rows_of_unit}
use Rattle.dl_rows.specs.Items.{Item, a_byte, a_row, an_operation, items_in, rows_of_items, unit_items}
use Rattle.dl_sections.proofs.EventLemmas.{rows_visited}
use Rattle.dl_sections.proofs.Fronts.{empty_both, none_is_some}

-- ---- visits one after the other

module _ (made : Made) (order : Order) where
  pub stays_stopped : (text : List ℕ) (f : RunFault) (visits : List Visit)
      → comes_to made order (stopped text f) visits ≡ stopped text f
  stays_stopped text f visits = fold_stays (visited made order) (stopped text f) (λ v. refl) visits

  -- a program, and that its last row isn't an end row
  pub after_items : (offset : ℕ) (before : List Row) (text : List ℕ) (items : List Item) (is_open : Bool)
      → comes_to made order (goes offset before text) (map of_item items ++ open_visit is_open)
      ≡ goes offset (before ++ rows_of_items items) text
  after_items offset before text [] true = rw append-nil refl
  after_items offset before text [] false = rw append-nil refl
  after_items offset before text (a_byte x ∷ items) is_open = after_items offset before text items is_open
  after_items offset before text (an_operation header o ∷ items) is_open = after_items offset before text items is_open
  after_items offset before text (a_row header r ∷ items) is_open =
      rw (append_assoc before (r ∷ []) (rows_of_items items)) at
      (after_items offset (before ++ r ∷ []) text items is_open)

  -- visits that begin with this one
  begun_with : (offset : ℕ) (before now : List Row) (text : List ℕ) (w v : Visit) (heard : List Visit) → w ≡ v
      → comes_to made order (goes offset before text) (v ∷ heard) ≡ goes offset now text
      → comes_to made order (goes offset before text) (w ∷ heard) ≡ goes offset now text
  begun_with offset before now text w v heard same come =
      subst (λ (z : Visit). comes_to made order (goes offset before text) (z ∷ heard) ≡ goes offset now text) (sym same)
      come

  -- the first of these
  pub after_some : (offset : ℕ) (before : List Row) (text : List ℕ) (items : List Item) (is_open : Bool)
      (heard x : List Visit) → map of_item items ++ open_visit is_open ≡ heard ++ x
      → (now : List Row) × (comes_to made order (goes offset before text) heard ≡ goes offset now text)
  after_some offset before text items is_open [] x e = (before, refl)
  after_some offset before text [] false (w ∷ heard) x e = absurd cc
  after_some offset before text [] true (w ∷ heard) x e =
      let first : w ≡ of_open = cc in
      let nothing : heard ≡ [] = (empty_both heard x (let none : heard ++ x ≡ [] = cc in none)).0 in
      (before, rw (first, nothing) refl)
  after_some offset before text (a_row header r ∷ items) is_open (w ∷ heard) x e =
      let first : w ≡ of_item (a_row header r) = cc in
      let later = after_some offset (before ++ r ∷ []) text items is_open heard x cc in
      (later.0, begun_with offset before later.0 text w (of_item (a_row header r)) heard first later.1)
  after_some offset before text (a_byte n ∷ items) is_open (w ∷ heard) x e =
      let first : w ≡ of_item (a_byte n) = cc in
      let later = after_some offset before text items is_open heard x cc in
      (later.0, begun_with offset before later.0 text w (of_item (a_byte n)) heard first later.1)
  after_some offset before text (an_operation header o ∷ items) is_open (w ∷ heard) x e =
      let first : w ≡ of_item (an_operation header o) = cc in
      let later = after_some offset before text items is_open heard x cc in
      (later.0, begun_with offset before later.0 text w (of_item (an_operation header o)) heard first later.1)

-- ---- the visits of a unit, or of the front of one

module _ (dialect : Dialect) (n : ℕ) (c : List ℕ) where
  -- c says its version, which isn't 5
  abbrev pub Foreign : Type 0
  Foreign = (version : ℕ) × (foreign_in dialect c ≡ Some version)

  -- c has a header
  abbrev pub Own : Type 0
  Own = (h : HeaderData) × (program : List ℕ) × (header_in dialect c ≡ Some (h, program))

  -- c has neither yet
  abbrev pub Neither : Type 0
  Neither = (foreign_in dialect c ≡ None) × (header_in dialect c ≡ None)

  by_version : (v : Option ℕ) (parts : Option (HeaderData × List ℕ)) → foreign_in dialect c ≡ v
      → header_in dialect c ≡ parts → Foreign ⊎ (Own ⊎ Neither)
  by_version (Some v) parts e is = inl (v, e)
  by_version None (Some (h, program)) e is = inr (inl (h, program, is))
  by_version None None e is = inr (inr (e, is))

  -- one of these three holds
  pub one_of : Foreign ⊎ (Own ⊎ Neither)
  one_of = by_version (foreign_in dialect c) (header_in dialect c) refl refl

  pub not_foreign : Own → foreign_in dialect c ≡ None
  not_foreign own = by (foreign_in dialect c) refl where
    by : (v : Option ℕ) → foreign_in dialect c ≡ v → foreign_in dialect c ≡ None
    by None e = e
    by (Some v) e = absurd (none_is_some (sym (foreign_no_header dialect c v e) ∙ own.2))

  -- its visits, by its case
  pub foreign_visits : (f : Foreign) → visits dialect n c ≡ of_version n f.0 ∷ []
  foreign_visits f = rw (f.1, foreign_no_header dialect c f.0 f.1) refl

  pub own_visits : (own : Own)
      → visits dialect n c ≡ of_header n (lengths_in dialect c own.0) own.0 ∷ map of_item (unit_items dialect c)
  own_visits own =
      let read = Some (record { lengths = lengths_in dialect c own.0; header = own.0 }) in
      rw (not_foreign own, own.2) (ap (λ (l : List Visit). of_header n (lengths_in dialect c own.0) own.0
      ∷ (l ++ map of_item (items_in dialect.order own.0 own.1)))
      (rows_visited n read (rows_in dialect.order own.0.params own.1)))

  pub no_visits : Neither → visits dialect n c ≡ []
  no_visits none = rw (none.0, none.1) refl

  -- the header of its visits
  pub header_is : (own : Own) → header_of dialect c ≡ Some own.0
  header_is own = rw own.2 refl

-- where visits of c, and that its sequence is open, are heard, and x are the others: another version is told first, or
-- it is the next; or they go on
pub data Front (made : Made) (dialect : Dialect) (n : ℕ) (c : List ℕ) (m : ℕ) (text : List ℕ) (heard x : List Visit)
    : Type 0 where
  at_version : (v : Foreign dialect n c)
      → comes_to made dialect.order (goes m [] text) heard ≡ stopped text (fault.ForeignUnit n)
      → Front made dialect n c m text heard x
  before_version : (version : ℕ) (others : List Visit) → heard ≡ [] → x ≡ of_version n version ∷ others
      → Front made dialect n c m text heard x
  goes_on : (now : ℕ) (rows : List Row) → comes_to made dialect.order (goes m [] text) heard ≡ goes now rows text
      → foreign_in dialect c ≡ None → Front made dialect n c m text heard x

module _ (made : Made) (dialect : Dialect) (n : ℕ) (c : List ℕ) (is_open : Bool) (m : ℕ) (text : List ℕ) where
  pub front_of : (heard x : List Visit) → visits dialect n c ++ open_visit is_open ≡ heard ++ x
      → Front made dialect n c m text heard x
  front_of heard x e = by (one_of dialect n c) heard e where
    from_header : (own : Own dialect n c) (w : Visit) (heard : List Visit) → w ≡ of_header n (lengths_in dialect c own.0) own.0
        → (now : List Row) × (comes_to made dialect.order (goes n [] text) heard ≡ goes n now text)
        → Front made dialect n c m text (w ∷ heard) x
    from_header own w heard first later = goes_on n later.0 (rw first later.1) (not_foreign dialect n c own)

    by : Foreign dialect n c ⊎ (Own dialect n c ⊎ Neither dialect n c) → (heard : List Visit)
        → visits dialect n c ++ open_visit is_open ≡ heard ++ x → Front made dialect n c m text heard x
    by (inl v) [] e = before_version v.0 (open_visit is_open) refl (sym e ∙ rw (foreign_visits dialect n c v) refl)
    by (inl v) (w ∷ heard) e =
        let all = rw (foreign_visits dialect n c v) at e in
        let first : w ≡ of_version n v.0 = cc in
        at_version v (rw first (stays_stopped made dialect.order text (fault.ForeignUnit n) heard))
    by (inr (inl own)) [] e = goes_on m [] refl (not_foreign dialect n c own)
    by (inr (inl own)) (w ∷ heard) e =
        let all = rw (own_visits dialect n c own) at e in
        from_header own w heard (cc) (after_some made dialect.order n [] text (unit_items dialect c) is_open heard x cc)
    by (inr (inr none)) heard e =
        let all = rw (no_visits dialect n c none) at e in
        let later = after_some made dialect.order m [] text [] is_open heard x all in
        goes_on m later.0 later.1 none.0

  -- to its end
  pub own_front : Own dialect n c
      → comes_to made dialect.order (goes m [] text) (visits dialect n c ++ open_visit is_open)
      ≡ goes n (unit_rows dialect c) text
  own_front own =
      rw (own_visits dialect n c own, ← rows_of_unit dialect c)
      (after_items made dialect.order n [] text (unit_items dialect c) is_open)

  pub foreign_front : Foreign dialect n c → (more : List Visit)
      → comes_to made dialect.order (goes m [] text) ((visits dialect n c ++ open_visit is_open) ++ more)
      ≡ stopped text (fault.ForeignUnit n)
  foreign_front v more =
      rw (foreign_visits dialect n c v)
      (stays_stopped made dialect.order text (fault.ForeignUnit n) (open_visit is_open ++ more))
