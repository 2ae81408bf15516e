-- The visits of bytes tell no more rows, and headers with no more cells, than there are bytes.
use Rattle.std.proofs.Common.{◌≡◌, ◌≤◌, ◌⊎◌, inl, inr, ℕ, ◌+◌, Bool, true, false, List, [], ◌∷◌, ◌++◌, length, length-append, map}
use Rattle.std.proofs.Common.{Option, Some, None, arith, refl, ap}
use Rattle.std.specs.List.{concat}
use Rattle.std.specs.Option.{option_map_or}
use Rattle.dl_head.specs.declared.dialect.Dialect.{Dialect}
use Rattle.dl_table.specs.declared.fault.FaultKind.TheVariants.{Truncated}
use Rattle.dl_field.specs.HeaderData.{HeaderData, header_cells}
use Rattle.dl_head.proofs.HeaderCells.{header_holds_its_cells}
use Rattle.dl_head.proofs.HeaderLaws.{found_is_header}
use Rattle.dl_rows.specs.declared.row.Row.{Row}
use Rattle.dl_rows.specs.LineUnit.{ends_open, unit_rows}
use Rattle.dl_sections.specs.Around.{Block, whole, damaged, block_bytes, bytes_of, block_visits, blocks_visits}
use Rattle.dl_sections.specs.Around.{Rest, begun, cut_off, broken, rest_bytes, rest_visits, visits_around}
use Rattle.dl_sections.specs.Copying.{row_count}
use Rattle.dl_sections.specs.Section.{Visit, of_header, of_item, of_end, of_damage, end_visits, header_of, open_visit}
use Rattle.dl_sections.specs.Section.{section_visits, unit_visits, units_visits, visits}
use Rattle.dl_sections.specs.Visiting.{header_told}
use Rattle.dl_rows.proofs.ItemLemmas.{rows_of_unit}
use Rattle.dl_rows.specs.Items.{Item, unit_items}
use Rattle.dl_sections.proofs.RowCounts.{count_of_items}
use Rattle.dl_sections.proofs.CopyingVisits.{Foreign, Own, Neither, one_of, foreign_visits, own_visits, no_visits}
use Rattle.dl_sections.proofs.RowCounts.{row_count-append}
use Rattle.dl_sections.proofs.SectionLemmas.{few_rows}
use Rattle.dl_making.specs.Few.{AreFew, cells_told}

cells_told-append : (a b : List Visit) → cells_told (a ++ b) ≡ cells_told a + cells_told b
cells_told-append [] b = omega arith
cells_told-append (of_header n l h ∷ a) b = omega (arith, cells_told-append a b)
cells_told-append (v ∷ a) b = cells_told-append a b

-- ---- visits one after the other

pub few_more : (n m : ℕ) (visits : List Visit) → n ≤ m → AreFew n visits → AreFew m visits
few_more n m visits le few = record { rows = omega (arith, le, few.rows); cells = omega (arith, le, few.cells) }

few_both : (n m : ℕ) (a b : List Visit) → AreFew n a → AreFew m b → AreFew (n + m) (a ++ b)
few_both n m a b few more = record {
  rows = omega (arith, row_count-append a b, few.rows, more.rows);
  cells = omega (arith, cells_told-append a b, few.cells, more.cells);
}

pub few_front : (n : ℕ) (a b : List Visit) → AreFew n (a ++ b) → AreFew n a
few_front n a b few = record {
  rows = omega (arith, row_count-append a b, few.rows);
  cells = omega (arith, cells_told-append a b, few.cells);
}

few_none : AreFew 0 []
few_none = record { rows = omega arith; cells = omega arith }

-- the header that visits told has no more cells than they tell
pub header_counted : (before : Option HeaderData) (visits : List Visit) (h : HeaderData)
    → header_told before visits ≡ Some h → header_cells h ≤ option_map_or header_cells before 0 + cells_told visits
header_counted before [] h is = omega (arith, ap (λ (o : Option HeaderData). option_map_or header_cells o 0) is)
header_counted before (of_header n l g ∷ visits) h is = omega (arith, header_counted (Some g) visits h is)
header_counted before (of_end g ∷ visits) h is = omega (arith, header_counted None visits h is)
header_counted before (of_damage unit n kind ∷ visits) h is = omega (arith, header_counted None visits h is)
header_counted before (v ∷ visits) h is = header_counted before visits h is

-- ---- the visits of a unit

no_cells : (items : List Item) → cells_told (map of_item items) ≡ 0
no_cells [] = refl
no_cells (item ∷ items) = no_cells items

module _ (dialect : Dialect) where
  own_cells : (n : ℕ) (c : List ℕ) (own : Own dialect n c) → header_cells own.0 ≤ length c
  own_cells n c (h, program, is) =
      let w = found_is_header dialect h c program is in
      let few = (header_holds_its_cells dialect h w.0 program w.2).1 in
      omega (arith, few, ap length w.1, length-append w.0 program)

  few_visits : (n : ℕ) (c : List ℕ) → AreFew (length c) (visits dialect n c)
  few_visits n c = by (one_of dialect n c) where
    by : Foreign dialect n c ⊎ (Own dialect n c ⊎ Neither dialect n c) → AreFew (length c) (visits dialect n c)
    by (inl v) = rw (foreign_visits dialect n c v) (record { rows = omega arith; cells = omega arith })
    by (inr (inl own)) =
        rw (own_visits dialect n c own) (record {
          rows = omega (arith, count_of_items (unit_items dialect c), ap length (rows_of_unit dialect c), few_rows dialect c);
          cells = omega (arith, no_cells (unit_items dialect c), own_cells n c own);
        })
    by (inr (inr none)) = rw (no_visits dialect n c none) (record { rows = omega arith; cells = omega arith })

  few_end : (u : List ℕ) → AreFew 0 (end_visits dialect u)
  few_end u = by (ends_open (unit_rows dialect u)) where
    by : (is_open : Bool) → AreFew 0 (open_visit is_open ++ of_end (header_of dialect u) ∷ [])
    by true = record { rows = omega arith; cells = omega arith }
    by false = record { rows = omega arith; cells = omega arith }

  few_unit : (n : ℕ) (u : List ℕ) → AreFew (length u) (unit_visits dialect n u)
  few_unit n u =
      few_more (length u + 0) (length u) (unit_visits dialect n u) (omega arith)
      (few_both (length u) 0 (visits dialect n u) (end_visits dialect u) (few_visits n u) (few_end u))

  few_units : (n : ℕ) (units : List (List ℕ)) → AreFew (length (concat units)) (units_visits dialect n units)
  few_units n [] = few_none
  few_units n (u ∷ units) =
      let rest = units_visits dialect (n + length u) units in
      few_more (length u + length (concat units)) (length (concat (u ∷ units))) (unit_visits dialect n u ++ rest)
      (omega (arith, length-append u (concat units)))
      (few_both (length u) (length (concat units)) (unit_visits dialect n u) rest (few_unit n u)
      (few_units (n + length u) units))

  -- of units and the front of one more
  pub few_in_section : (units : List (List ℕ)) (b : List ℕ)
      → AreFew (length (concat units) + length b) (section_visits dialect units b)
  few_in_section units b =
      few_both (length (concat units)) (length b) (units_visits dialect 0 units) (visits dialect (length (concat units)) b)
      (few_units 0 units) (few_visits (length (concat units)) b)

  -- ---- around damaged units

  damaged_few : (n : ℕ) (front back : List ℕ) (v : Visit) → AreFew 0 (v ∷ [])
      → AreFew (length (front ++ back)) (visits dialect n front ++ v ∷ [])
  damaged_few n front back v few =
      few_more (length front + 0) (length (front ++ back)) (visits dialect n front ++ v ∷ [])
      (omega (arith, length-append front back))
      (few_both (length front) 0 (visits dialect n front) (v ∷ []) (few_visits n front) few)

  few_block : (n : ℕ) (block : Block) → AreFew (length (block_bytes block)) (block_visits dialect n block)
  few_block n (whole u) = few_unit n u
  few_block n (damaged front back at kind) =
      damaged_few n front back (of_damage n (n + at) kind) (record { rows = omega arith; cells = omega arith })

  few_blocks : (n : ℕ) (blocks : List Block) → AreFew (length (bytes_of blocks)) (blocks_visits dialect n blocks)
  few_blocks n [] = few_none
  few_blocks n (block ∷ blocks) =
      let len = length (block_bytes block) in
      let rest = blocks_visits dialect (n + len) blocks in
      few_more (len + length (bytes_of blocks)) (length (bytes_of (block ∷ blocks))) (block_visits dialect n block ++ rest)
      (omega (arith, length-append (block_bytes block) (bytes_of blocks)))
      (few_both len (length (bytes_of blocks)) (block_visits dialect n block) rest (few_block n block)
      (few_blocks (n + len) blocks))

  few_rest : (n : ℕ) (rest : Rest) → AreFew (length (rest_bytes rest)) (rest_visits dialect n rest)
  few_rest n (begun b) = few_visits n b
  few_rest n (cut_off b) =
      few_more (length b + 0) (length b) (rest_visits dialect n (cut_off b)) (omega arith)
      (few_both (length b) 0 (visits dialect n b) (of_damage n (n + length b) Truncated ∷ []) (few_visits n b)
      (record { rows = omega arith; cells = omega arith }))
  few_rest n (broken front back at kind) =
      damaged_few n front back (of_damage n (n + at) kind) (record { rows = omega arith; cells = omega arith })

  -- of blocks and of what follows them
  pub few_around : (blocks : List Block) (rest : Rest)
      → AreFew (length (bytes_of blocks) + length (rest_bytes rest)) (visits_around dialect blocks rest)
  few_around blocks rest =
      few_both (length (bytes_of blocks)) (length (rest_bytes rest)) (blocks_visits dialect 0 blocks)
      (rest_visits dialect (length (bytes_of blocks)) rest) (few_blocks 0 blocks)
      (few_rest (length (bytes_of blocks)) rest)
