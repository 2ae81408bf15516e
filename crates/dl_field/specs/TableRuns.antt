-- Values of a table that are taken one after the other. No promise rests on how this is said.
use Rattle.std.specs.Prelude.{◌≡◌, ℕ, ◌+◌, ◌-◌, ◌<◌, ◌≤◌, ◌==◌, List, [], ◌∷◌, ◌++◌, length, take, drop, Some}
use Rattle.std.specs.List.{position}
use Rattle.dl_num.specs.declared.fixed.Order.{Order}
use Rattle.dl_table.specs.declared.form.Format.{Format}
use Rattle.dl_table.specs.declared.form.Form.{Form}
use Rattle.dl_table.specs.declared.table.held.StoredValue.{StoredValue}
use Rattle.dl_table.specs.declared.table.held.StoredValue.TheVariants as held
use Rattle.dl_table.specs.TableData.{TableData}
use Rattle.dl_table.specs.Held.{values_end}
use Rattle.dl_table.specs.Value.{Value, good}
use Rattle.dl_field.specs.declared.table_reader.TableReader.{TableReader}
use Rattle.dl_field.specs.declared.value_phase.Cursor.{Cursor}
use Rattle.dl_field.specs.declared.value_phase.ValuePhase.{ValuePhase}
use Rattle.dl_field.specs.Cells.{rest_cells}
use Rattle.dl_field.specs.Layout.{Layout, Item, following, field_spelt}
use Rattle.dl_field.specs.TableMoves.{AmongTable}
use Rattle.dl_field.specs.TablePlace.{Holds, Summed, ValueAt, values_left, reader_cells, field_cells}
use Rattle.dl_field.specs.TableStep.{value_due, value_filled}

-- no byte of the value has come, where the pool has so many
pub record IsNewValue (v : ValuePhase) (pool_len : ℕ) : Type 0 where
  pub none : (format : Format) (f : Form) (pool rest : List ℕ) → length pool ≡ pool_len → ValueAt format f v pool rest
      → rest ≡ []
  pub filled : value_filled v pool_len ≡ pool_len
  pub none_due : value_due v ≡ 0

-- The values before the place are held, and no byte of the one there has come. The reader's phase may say an earlier
-- place.
pub record AtPlace (format : Format) (p : TableReader × Cursor) (next : TableData → Layout) (layout : Layout)
    (rest : List ℕ) : Type 0 where
  pub none : rest ≡ []
  pub entries : List (List Value)
  pub before : List Value
  pub column : length before ≡ p.1.column
  pub holds : Holds p.0.pairs.items p.0.pool.items p.0.values.items entries before
  pub summed : Summed p.0.values.items (length p.0.pool.items)
  pub layout_is : layout ≡ values_left format next p.0.pairs.items entries before p.1.left

-- the reader is at the place
abbrev pub BeginsRun : Order → Format → TableReader → Cursor → Type 0
BeginsRun order format t at = (next : TableData → Layout) (layout : Layout) (rest : List ℕ)
    → AmongTable order format t next layout rest → AtPlace format (t, at) next layout rest

-- `value_at`: the bytes in front of tail are those of the value at the place, and the one at the place `to` follows it
pub record TakesAt (order : Order) (format : Format) (old : TableReader) (at : Cursor) (bytes tail : List ℕ)
    (to : Cursor) (new : TableReader) : Type 0 where
  pub front : List ℕ
  pub bytes_are : bytes ≡ front ++ tail
  pub some : 1 ≤ length front
  pub ends : (next : TableData → Layout) (layout : Layout) → AtPlace format (old, at) next layout []
      → (i : Item) × (field_spelt order layout front ≡ good i)
      × (reader_cells new + rest_cells layout [] ≡ reader_cells old + field_cells order layout front)
      × AtPlace format (new, to) next (following layout i) []
  pub in_row : to.column < length new.pairs.items
  pub whole : values_end new.values.items ≤ length new.pool.items

-- `hold`: a value more is held
pub record HoldsMore (old : TableReader) (h : StoredValue) (new : TableReader) : Type 0 where
  pub pairs : new.pairs.items ≡ old.pairs.items
  pub values : new.values.items ≡ old.values.items ++ h ∷ []
  pub pool : new.pool.items ≡ old.pool.items

-- `hold_text`: a text more is held, up to the first zero byte
pub record HoldsText (old : TableReader) (bytes tail : List ℕ) (new : TableReader) : Type 0 where
  pub len : ℕ
  pub found : position (λ b. b == 0) bytes ≡ Some len
  pub within : len < length bytes
  pub tail_is : tail ≡ take (length bytes - (len + 1)) (drop (len + 1) bytes)
  pub pairs : new.pairs.items ≡ old.pairs.items
  pub values : new.values.items
      ≡ old.values.items ++ held.Text (record { start = length old.pool.items; len = len }) ∷ []
  pub pool : new.pool.items ≡ old.pool.items ++ take len bytes
