-- What visits tell of the units of a section.
use Rattle.std.proofs.Common.{◌≡◌, inl, inr, ℕ, ◌+◌, Bool, true, false, List, [], ◌∷◌, ◌++◌, length, map, flat_map}
use Rattle.std.proofs.Common.{Option, Some, None, refl, sym, ap, ◌∙◌, append_assoc, append-nil}
use Rattle.std.specs.List.{AllByRecursion, concat}
use Rattle.dl_head.specs.declared.dialect.Dialect.{Dialect}
use Rattle.dl_field.specs.HeaderData.{HeaderData}
use Rattle.dl_head.specs.declared.header.HeaderLengths.{HeaderLengths}
use Rattle.dl_head.specs.Header.{foreign_in, header_in, lengths_in}
use Rattle.dl_head.proofs.HeaderLaws.{header_is_found}
use Rattle.dl_rows.specs.declared.row.Row.{Row}
use Rattle.dl_rows.specs.Items.{Item, a_byte, a_row, an_operation, items_in, items_later, rows_of_items}
use Rattle.dl_rows.proofs.ItemLemmas.{items_are_these}
use Rattle.dl_rows.specs.LineUnit.{IsUnit, rows_in, rows_later, unit_rows, ends_open, events_of}
use Rattle.dl_rows.proofs.ReaderLemmas.{foreign_no_header}
use Rattle.dl_rows.proofs.UnitLengths.{foreign_of}
use Rattle.dl_sections.specs.InMemory.{UnitTold, unit_told, units_told}
use Rattle.dl_sections.specs.Section.{Visit, of_header, of_item, of_end, header_of}
use Rattle.dl_sections.specs.Section.{event_visits, read_by, visits, open_visit, end_visits, unit_visits, units_visits}
use Rattle.dl_sections.specs.Section.{section_visits}
use Rattle.dl_sections.specs.Telling.{Heard, heard_after, with_visit}
use Rattle.dl_sections.proofs.EventLemmas.{rows_visited}
use Rattle.dl_sections.proofs.Fronts.{none_is_some}

pub heard_after-append : (heard : Heard) (a b : List Visit)
    → heard_after heard (a ++ b) ≡ heard_after (heard_after heard a) b
heard_after-append heard [] b = refl
heard_after-append heard (visit ∷ a) b = heard_after-append (with_visit heard visit) a b

items_heard : (heard : Heard) (items : List Item)
    → heard_after heard (map of_item items) ≡ record heard { rows = heard.rows ++ rows_of_items items }
items_heard heard [] = rw (append-nil heard.rows) refl
items_heard heard (a_byte x ∷ items) = items_heard heard items
items_heard heard (an_operation header o ∷ items) = items_heard heard items
items_heard heard (a_row header r ∷ items) =
    items_heard (with_visit heard (of_item (a_row header r))) items
    ∙ rw (append_assoc heard.rows (r ∷ []) (rows_of_items items)) refl

end_heard : (heard : Heard) (is_open : Bool) (h : Option HeaderData)
    → heard_after heard (open_visit is_open ++ of_end h ∷ []) ≡ with_visit heard (of_end h)
end_heard heard true h = refl
end_heard heard false h = refl

-- a unit has a header, or is of a version that isn't read
has_either : (dialect : Dialect) (u : List ℕ) → IsUnit dialect u → foreign_in dialect u ≡ None
    → header_in dialect u ≡ None → ⊥
has_either dialect u (inl (version, is)) known none = none_is_some (sym known ∙ foreign_of dialect version u is)
has_either dialect u (inr (h, p, is)) known none =
    none_is_some (sym none ∙ ap (header_in dialect) is.whole
    ∙ header_is_found dialect h is.header is.program is.spells_header)

module _ (dialect : Dialect) (offset : ℕ) (heard : Heard) where
  -- the visits of a version, and of a header and what its program comes to
  abbrev front_of : (lengths : HeaderData → HeaderLengths) (version : Option ℕ)
      (parts : Option (HeaderData × List ℕ)) → List Visit
  front_of lengths version parts =
      flat_map (event_visits offset (read_by lengths parts)) (events_of dialect.order version parts)
      ++ map of_item (items_later dialect.order parts)

  -- what they tell, where there is one
  told_by : (lengths : HeaderData → HeaderLengths) (version : Option ℕ) (parts : Option (HeaderData × List ℕ)) → ((v : ℕ) → version ≡ Some v → parts ≡ None)
      → (version ≡ None → parts ≡ None → ⊥)
      → heard_after heard (front_of lengths version parts) ≡ record {
        offset = offset;
        version = version;
        units = heard.units;
        rows = heard.rows ++ rows_later dialect.order parts;
      }
  told_by lengths (Some v) None only some = rw (append-nil heard.rows) refl
  told_by lengths (Some v) (Some p) only some = absurd (none_is_some (sym (only v refl)))
  told_by lengths None None only some = absurd (some refl refl)
  told_by lengths None (Some (h, program)) only some =
      let rows = rows_in dialect.order h.params program in
      let items = items_in dialect.order h program in
      let now = with_visit heard (of_header offset (lengths h) h) in
      ap (λ (z : List Visit). heard_after now (z ++ map of_item items))
      (rows_visited offset (read_by lengths (Some (h, program))) rows)
      ∙ items_heard now items
      ∙ ap (λ (z : List Row). record now { rows = heard.rows ++ z }) (items_are_these dialect.order h program).2

  -- a unit, once it is whole
  pub unit_heard : (u : List ℕ) → heard.rows ≡ [] → IsUnit dialect u → heard_after heard (unit_visits dialect offset u)
      ≡ record {
        offset = offset;
        version = foreign_in dialect u;
        units = heard.units ++ unit_told dialect offset u ∷ [];
        rows = [];
      }
  unit_heard u none is =
      heard_after-append heard (visits dialect offset u) (end_visits dialect u)
      ∙ ap (λ (h : Heard). heard_after h (end_visits dialect u))
      (told_by (lengths_in dialect u) (foreign_in dialect u) (header_in dialect u) (foreign_no_header dialect u) (has_either dialect u is))
      ∙ end_heard _ (ends_open (unit_rows dialect u)) (header_of dialect u)
      ∙ rw none refl

  -- the front of a unit
  front_told : (lengths : HeaderData → HeaderLengths) (version : Option ℕ) (parts : Option (HeaderData × List ℕ)) → ((v : ℕ) → version ≡ Some v → parts ≡ None)
      → (now : Heard)
      → heard_after heard (front_of lengths version parts) ≡ now
      → (now.units ≡ heard.units) × (now.rows ≡ heard.rows ++ rows_later dialect.order parts)
  front_told lengths (Some v) None only now is = rw (sym is) (refl, sym (append-nil heard.rows))
  front_told lengths (Some v) (Some p) only now is = absurd (none_is_some (sym (only v refl)))
  front_told lengths None None only now is = rw (sym is) (refl, sym (append-nil heard.rows))
  front_told lengths None (Some p) only now is =
      let told = sym is ∙ told_by lengths None (Some p) only (λ known none. none_is_some (sym none)) in
      (ap (λ (h : Heard). h.units) told, ap (λ (h : Heard). h.rows) told)

  pub front_heard : (b : List ℕ) → ((heard_after heard (visits dialect offset b)).units ≡ heard.units)
      × ((heard_after heard (visits dialect offset b)).rows ≡ heard.rows ++ unit_rows dialect b)
  front_heard b =
      front_told (lengths_in dialect b) (foreign_in dialect b) (header_in dialect b) (foreign_no_header dialect b)
      (heard_after heard (visits dialect offset b)) refl

module _ (dialect : Dialect) where
  units_heard : (heard : Heard) (offset : ℕ) (units : List (List ℕ)) → heard.rows ≡ []
      → AllByRecursion (IsUnit dialect) units
      → ((heard_after heard (units_visits dialect offset units)).units ≡ heard.units ++ units_told dialect offset units)
      × ((heard_after heard (units_visits dialect offset units)).rows ≡ [])
  units_heard heard offset [] none all = (sym (append-nil heard.units), none)
  units_heard heard offset (u ∷ units) none all =
      let others = units_visits dialect (offset + length u) units in
      let own = heard_after-append heard (unit_visits dialect offset u) others
      ∙ ap (λ (h : Heard). heard_after h others) (unit_heard dialect offset heard u none all.0) in
      let rest = units_heard (record {
        offset = offset;
        version = foreign_in dialect u;
        units = heard.units ++ unit_told dialect offset u ∷ [];
        rows = [];
      }) (offset + length u) units refl all.1 in (
        ap (λ (h : Heard). h.units) own ∙ rest.0
            ∙ append_assoc heard.units (unit_told dialect offset u ∷ []) (units_told dialect (offset + length u) units),
        ap (λ (h : Heard). h.rows) own ∙ rest.1,
      )

  -- of units, and of the front of one more
  pub section_heard : (heard : Heard) (units : List (List ℕ)) (b : List ℕ) → heard.units ≡ [] → heard.rows ≡ []
      → AllByRecursion (IsUnit dialect) units
      → ((heard_after heard (section_visits dialect units b)).units ≡ units_told dialect 0 units)
      × ((heard_after heard (section_visits dialect units b)).rows ≡ unit_rows dialect b)
  section_heard heard units b no_units no_rows all =
      let last = visits dialect (length (concat units)) b in
      let whole = units_heard heard 0 units no_rows all in
      let front = front_heard dialect (length (concat units)) (heard_after heard (units_visits dialect 0 units)) b in
      let is = heard_after-append heard (units_visits dialect 0 units) last in (
        ap (λ (h : Heard). h.units) is ∙ front.0 ∙ whole.0
            ∙ ap (λ (l : List UnitTold). l ++ units_told dialect 0 units) no_units,
        ap (λ (h : Heard). h.rows) is ∙ front.1 ∙ ap (λ (l : List Row). l ++ unit_rows dialect b) whole.1,
      )
