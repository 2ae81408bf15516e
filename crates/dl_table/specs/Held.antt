-- What the fields of a table hold, seen as its pairs and values.
use Rattle.std.specs.Prelude.{◌≡◌, ℕ, zero, suc, ◌+◌, ◌*◌, ◌/◌, List, [], ◌∷◌, length, take, drop, map, max}
use Rattle.dl_table.specs.declared.form.Format.{Format}
use Rattle.dl_table.specs.declared.table.Pair.{Pair}
use Rattle.dl_table.specs.declared.table.held.Extent.{Extent}
use Rattle.dl_table.specs.declared.table.held.StoredValue.{StoredValue}
use Rattle.dl_table.specs.declared.table.held.StoredValue.TheVariants as held
use Rattle.dl_table.specs.declared.table.held.ValueRef.{ValueRef}
use Rattle.dl_table.specs.declared.table.held.ValueRef.TheVariants as lent
use Rattle.dl_table.specs.TableData.{TableData}
use Rattle.dl_table.specs.Value.{Value, text, line_str, str, str_sup, number, block, data16}

-- the bytes of a pool at an extent
abbrev pub bytes_at : List ℕ → Extent → List ℕ
bytes_at pool e = take e.len (drop e.start pool)

-- the value that is held, its bytes in the pool
abbrev pub value_held : List ℕ → StoredValue → Value
value_held pool (held.Text e) = text (bytes_at pool e)
value_held pool (held.LineStr n) = line_str n
value_held pool (held.Str n) = str n
value_held pool (held.StrSup n) = str_sup n
value_held pool (held.Number n) = number n
value_held pool (held.Block e) = block (bytes_at pool e)
value_held pool (held.Data16 w) = data16 w

-- the value that is lent
abbrev pub value_lent : ValueRef → Value
value_lent (lent.Text w) = text w.now
value_lent (lent.LineStr n) = line_str n
value_lent (lent.Str n) = str n
value_lent (lent.StrSup n) = str_sup n
value_lent (lent.Number n) = number n
value_lent (lent.Block w) = block w.now
value_lent (lent.Data16 w) = data16 w

-- where the bytes of a value end in the pool
abbrev pub held_end : StoredValue → ℕ
held_end (held.Text e) = e.start + e.len
held_end (held.Block e) = e.start + e.len
held_end other = 0

-- where the bytes of all the values end
abbrev pub values_end : List StoredValue → ℕ
values_end [] = 0
values_end (h ∷ values) = max (held_end h) (values_end values)

-- the first rows of width elements each, count of them
abbrev pub rows : {A : Type 0} → ℕ → ℕ → List A → List (List A)
rows zero width xs = []
rows (suc count) width xs = take width xs ∷ rows count width (drop width xs)

-- the values are a whole number of rows
abbrev pub IsWhole : (values width : ℕ) → Type 0
IsWhole values width = values / width * width ≡ values

-- a table whose entries are rows of one value for each pair
abbrev pub table_of : Format → List Pair → List StoredValue → List ℕ → TableData
table_of format pairs values pool = record {
  format = format;
  pairs = pairs;
  entries = rows (length values / length pairs) (length pairs) (map (value_held pool) values);
}

-- the bytes of a value that stand in a pool, and how many they are
abbrev pub bytes_lent : ValueRef → List ℕ
bytes_lent (lent.Text w) = w.now
bytes_lent (lent.Block w) = w.now
bytes_lent other = []

abbrev pub pooled : ValueRef → ℕ
pooled v = length (bytes_lent v)

-- how many cells a value is: itself, and the bytes of a text or block
abbrev pub cells_held : StoredValue → ℕ
cells_held (held.Text e) = 1 + e.len
cells_held (held.Block e) = 1 + e.len
cells_held other = 1
