-- The header that visits tell of the current unit.
use Rattle.dl_sections.proofs.Names.{◌++◌, ◌+◌, ◌∙◌, ◌∷◌, ◌≡◌, ◌⊎◌, [], Bool, Dialect, end_visits, ends_open}
use Rattle.dl_sections.proofs.Names.{false, foreign_no_header, header_of, header_told, HeaderData, inl, inr, length, List}
use Rattle.dl_sections.proofs.Names.{map, None, of_end, of_header, of_item, open_visit, Option, refl}
use Rattle.dl_sections.proofs.Names.{Some, true, unit_rows, unit_visits, units_visits, Visit, visits, ℕ}
use Rattle.dl_rows.specs.Items.{Item, unit_items}
use Rattle.dl_sections.specs.Section.{of_damage}
use Rattle.dl_sections.specs.UnitsRead.{Before, end_of, visits_since}
use Rattle.dl_sections.proofs.CopyingVisits.{Foreign, Own, Neither, one_of, foreign_visits, own_visits, no_visits}
use Rattle.dl_sections.proofs.CopyingVisits.{header_is}

-- by visits of two lists
pub header_told-append : (h : Option HeaderData) (a b : List Visit)
    → header_told h (a ++ b) ≡ header_told (header_told h a) b
header_told-append h [] b = refl
header_told-append h (of_header n l g ∷ a) b = header_told-append (Some g) a b
header_told-append h (of_end g ∷ a) b = header_told-append None a b
header_told-append h (of_damage unit n kind ∷ a) b = header_told-append None a b
header_told-append h (v ∷ a) b = header_told-append h a b

of_open_none : (h : Option HeaderData) (is_open : Bool) → header_told h (open_visit is_open) ≡ h
of_open_none h true = refl
of_open_none h false = refl

-- an open sequence tells none
pub header_told-open : (a : List Visit) (is_open : Bool)
    → header_told None (a ++ open_visit is_open) ≡ header_told None a
header_told-open a is_open =
    header_told-append None a (open_visit is_open) ∙ of_open_none (header_told None a) is_open

items_tell_none : (h : Option HeaderData) (items : List Item) → header_told h (map of_item items) ≡ h
items_tell_none h [] = refl
items_tell_none h (item ∷ items) = items_tell_none h items

module _ (dialect : Dialect) where
  -- at the end of a unit none is told
  pub none_at_end : (n : ℕ) (u : List ℕ) → header_told None (unit_visits dialect n u) ≡ None
  none_at_end n u =
      header_told-append None (visits dialect n u) (end_visits dialect u)
      ∙ header_told-append (header_told None (visits dialect n u)) (open_visit (ends_open (unit_rows dialect u)))
      (of_end (header_of dialect u) ∷ [])

  none_of_units : (n : ℕ) (units : List (List ℕ)) → header_told None (units_visits dialect n units) ≡ None
  none_of_units n [] = refl
  none_of_units n (u ∷ units) =
      rw (
        header_told-append None (unit_visits dialect n u) (units_visits dialect (n + length u) units),
        none_at_end n u,
      )
      (none_of_units (n + length u) units)

  by_kind : (n : ℕ) (b : List ℕ) → Foreign dialect n b ⊎ (Own dialect n b ⊎ Neither dialect n b)
      → header_told None (visits dialect n b) ≡ header_of dialect b
  by_kind n b (inl f) = rw (foreign_visits dialect n b f, foreign_no_header dialect b f.0 f.1) refl
  by_kind n b (inr (inl own)) =
      rw (own_visits dialect n b own, header_is dialect n b own) (items_tell_none (Some own.0) (unit_items dialect b))
  by_kind n b (inr (inr none)) = rw (no_visits dialect n b none, none.1) refl

  -- that of the bytes after the units
  pub header_since : (past : Before dialect) (units : List (List ℕ)) (b : List ℕ)
      → header_told None (visits_since past units b) ≡ header_of dialect b
  header_since past units b =
      let n = end_of past units in
      let told = units_visits dialect (length past.bytes) units in
      rw (
        header_told-append None past.visits (told ++ visits dialect n b),
        past.closed,
        header_told-append None told (visits dialect n b),
        none_of_units (length past.bytes) units,
      ) (by_kind n b (one_of dialect n b))
