-- No more rows are told than bytes are read.
use Rattle.dl_sections.proofs.Names.{◌++◌, ◌+◌, ◌∷◌, ◌≡◌, ◌≤◌, ◌⊎◌, [], ap, arith, Becomes, Bool, concat, Dialect, end_visits, ends_open}
use Rattle.dl_sections.proofs.Names.{false, HasUnits, header_of, inl, inr, IsGrowth, length, length-append, length-take, List, map, of_end}
use Rattle.dl_sections.proofs.Names.{of_item, open_visit, refl, Row, row_count, section_visits, Some, take, true, unit_rows, unit_visits}
use Rattle.dl_sections.proofs.Names.{units_visits, Visit, visits, ℕ}
use Rattle.dl_sections.proofs.Names.{HeaderData}
use Rattle.dl_rows.proofs.ItemLemmas.{rows_of_unit}
use Rattle.dl_rows.specs.Items.{Item, a_byte, a_row, an_operation, rows_of_items, unit_items}
use Rattle.dl_sections.proofs.CopyingVisits.{Foreign, Own, Neither, one_of, foreign_visits, own_visits, no_visits}
use Rattle.dl_sections.proofs.SectionLemmas.{few_rows}

pub row_count-append : (a b : List Visit) → row_count (a ++ b) ≡ row_count a + row_count b
row_count-append [] b = omega arith
row_count-append (of_item (a_row header r) ∷ a) b = omega (arith, row_count-append a b)
row_count-append (v ∷ a) b = row_count-append a b

pub count_of_items : (items : List Item) → row_count (map of_item items) ≡ length (rows_of_items items)
count_of_items [] = refl
count_of_items (a_byte x ∷ items) = count_of_items items
count_of_items (an_operation header o ∷ items) = count_of_items items
count_of_items (a_row header r ∷ items) = omega (arith, count_of_items items)

no_row_at_end : (dialect : Dialect) (u : List ℕ) → row_count (end_visits dialect u) ≡ 0
no_row_at_end dialect u = by (ends_open (unit_rows dialect u)) where
  by : (is_open : Bool) → row_count (open_visit is_open ++ of_end (header_of dialect u) ∷ []) ≡ 0
  by true = refl
  by false = refl

few_visits : (dialect : Dialect) (n : ℕ) (c : List ℕ) → row_count (visits dialect n c) ≤ length c
few_visits dialect n c = by (one_of dialect n c) where
  by : Foreign dialect n c ⊎ (Own dialect n c ⊎ Neither dialect n c) → row_count (visits dialect n c) ≤ length c
  by (inl v) = rw (foreign_visits dialect n c v) (omega arith)
  by (inr (inl own)) =
      rw (own_visits dialect n c own) (omega (arith, count_of_items (unit_items dialect c), ap length (rows_of_unit dialect c), few_rows dialect c))
  by (inr (inr none)) = rw (no_visits dialect n c none) (omega arith)

few_in_units : (dialect : Dialect) (n : ℕ) (units : List (List ℕ))
    → row_count (units_visits dialect n units) ≤ length (concat units)
few_in_units dialect n [] = omega arith
few_in_units dialect n (u ∷ units) =
    omega (
      arith,
      row_count-append (unit_visits dialect n u) (units_visits dialect (n + length u) units),
      row_count-append (visits dialect n u) (end_visits dialect u),
      no_row_at_end dialect u,
      few_visits dialect n u,
      few_in_units dialect (n + length u) units,
      length-append u (concat units),
    )

-- no more rows are told than bytes are read
pub few_rows_before : (dialect : Dialect) (limit : ℕ) (bytes : List ℕ) (units : List (List ℕ)) (b back : List ℕ)
    (heard more : List Visit) → HasUnits dialect (take limit bytes) units (b ++ back)
    → section_visits dialect units b ≡ heard ++ more → row_count heard ≤ length bytes
few_rows_before dialect limit bytes units b back heard more has whole =
    omega (
      arith,
      row_count-append (units_visits dialect 0 units) (visits dialect (length (concat units)) b),
      few_in_units dialect 0 units,
      few_visits dialect (length (concat units)) b,
      ap row_count whole,
      row_count-append heard more,
      ap length has.whole,
      length-append (concat units) (b ++ back),
      length-append b back,
      length-take limit bytes,
    )

-- one visit more
pub no_fewer : (visits : List Visit) (visit : Visit) → row_count visits ≤ row_count (visits ++ visit ∷ [])
no_fewer visits visit = omega (arith, row_count-append visits (visit ∷ []))

pub row_more : (visits : List Visit) (header : HeaderData) (r : Row)
    → row_count (visits ++ of_item (a_row header r) ∷ []) ≡ row_count visits + 1
row_more visits header r = omega (arith, row_count-append visits (of_item (a_row header r) ∷ []))

-- what is refused for rows is said in other words
pub growth_more : {Refused Refused2 : Type 0} (refuses : ℕ → Type 0) (becomes : Becomes) (offset : ℕ) (visit : Visit)
    → (Refused → Refused2) → IsGrowth Refused refuses becomes offset visit → IsGrowth Refused2 refuses becomes offset visit
growth_more refuses becomes offset (of_item (a_row header r)) more growth = more growth
growth_more refuses becomes offset (of_end (Some h)) more growth = growth
growth_more refuses becomes offset visit more growth = absurd growth
