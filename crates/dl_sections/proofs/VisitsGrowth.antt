-- What is told of a unit of which more bytes come.
use Rattle.dl_sections.proofs.Names.{◌++◌, ◌≡◌, ◌⊎◌, [], Dialect, foreign_on, HeaderData}
use Rattle.dl_sections.proofs.Names.{header_in, header_on, inl, inr, List, map, map-append, of_item, refl, Some, Visit, visits, ℕ}
use Rattle.dl_rows.proofs.ItemLemmas.{items_grow}
use Rattle.dl_rows.specs.Items.{items_after, unit_items}
use Rattle.dl_sections.proofs.CopyingVisits.{Foreign, Neither, Own, foreign_visits, no_visits, one_of, own_visits}
use Rattle.dl_sections.proofs.EventLemmas.{lengths_on}

-- what a program comes to of which more bytes come
items_on : (dialect : Dialect) (b x : List ℕ) (h : HeaderData) (program : List ℕ) → header_in dialect b ≡ Some (h, program)
    → unit_items dialect (b ++ x) ≡ unit_items dialect b ++ items_after dialect.order h.params h program x
items_on dialect b x h program is =
    rw (header_on dialect b x h program is, is) (items_grow dialect.order h program x)

-- the visits that more bytes add
pub more_visits : (dialect : Dialect) (offset : ℕ) (b x : List ℕ)
    → (more : List Visit) × (visits dialect offset (b ++ x) ≡ visits dialect offset b ++ more)
more_visits dialect offset b x = by (one_of dialect offset b) where
  by : Foreign dialect offset b ⊎ (Own dialect offset b ⊎ Neither dialect offset b)
      → (more : List Visit) × (visits dialect offset (b ++ x) ≡ visits dialect offset b ++ more)
  by (inl f) = (
    [],
    rw (foreign_visits dialect offset b f, foreign_visits dialect offset (b ++ x) (f.0, foreign_on dialect b x f.0 f.1)) refl,
  )
  by (inr (inl own)) =
      let later : Own dialect offset (b ++ x) = (own.0, own.1 ++ x, header_on dialect b x own.0 own.1 own.2) in
      let items = items_after dialect.order own.0.params own.0 own.1 x in
      let grown = items_on dialect b x own.0 own.1 own.2 in (
        map of_item items,
        rw (
          own_visits dialect offset (b ++ x) later,
          own_visits dialect offset b own,
          lengths_on dialect b x own.0 own.1 own.2,
          grown,
        ) (rw map-append refl),
      )
  by (inr (inr none)) = (visits dialect offset (b ++ x), rw (no_visits dialect offset b none) refl)
