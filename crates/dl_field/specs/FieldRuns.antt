-- Fields of a table whose bytes come at once, one after the other. No promise rests on how this is said.
use Rattle.std.specs.Prelude.{◌≡◌, ℕ, ◌+◌, ◌≤◌, List, [], ◌∷◌, ◌++◌, length}
use Rattle.std.specs.List.{concat}
use Rattle.dl_num.specs.declared.fixed.Order.{Order}
use Rattle.dl_table.specs.TableData.{TableData}
use Rattle.dl_table.specs.Value.{good}
use Rattle.dl_field.specs.Cells.{rest_cells}
use Rattle.dl_field.specs.Layout.{Layout, Item, following, following_all, field_spelt}
use Rattle.dl_field.specs.TablePlace.{field_cells}

-- The bytes rest of the first field of the layout have come. Each of `values` ends a field, and these have the items; of
-- the field after them the bytes left have come. The cells were `before`, and are `after`.
abbrev pub EndEach : Order → Layout → List ℕ → List (List ℕ) → List Item → ℕ → ℕ → List ℕ → Type 0
EndEach order layout rest [] [] before after left = (left ≡ rest) × (after ≡ before)
EndEach order layout rest (w ∷ values) (i ∷ items) before after left =
    (mid : ℕ) × (1 ≤ length w) × (field_spelt order layout (rest ++ w) ≡ good i)
    × (mid + rest_cells layout rest ≡ before + field_cells order layout (rest ++ w))
    × EndEach order (following layout i) [] values items mid after left
EndEach order layout rest [] (i ∷ items) before after left = ⊥
EndEach order layout rest (w ∷ values) [] before after left = ⊥

-- These bytes are values, and the reader of a table takes them. Among says of a reader where it is in a table that isn't
-- whole: what follows the table, the layout from its field on, and the bytes of this that have come.
pub record TakesFields {T : Type 0} (order : Order) (Among : T → (TableData → Layout) → Layout → List ℕ → Type 0)
    (cells_of : T → ℕ) (old : T) (bytes : List ℕ) (new : T) : Type 0 where
  pub values : List (List ℕ)
  pub bytes_are : bytes ≡ concat values
  pub each : (next : TableData → Layout) (layout : Layout) (rest : List ℕ) → Among old next layout rest
      → (items : List Item) × (left : List ℕ)
      × EndEach order layout rest values items (cells_of old) (cells_of new) left
      × Among new next (following_all layout items) left
