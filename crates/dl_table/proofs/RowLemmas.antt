-- The entries of a table as rows of its values.
use Rattle.std.proofs.Common.{◌≡◌, ℕ, zero, suc, ◌+◌, ◌*◌, ◌/◌, ◌<◌, ◌≤◌, List, [], ◌∷◌, ◌++◌, length, take, drop, map}
use Rattle.std.proofs.Common.{Some, refl, sym, ap, arith, ◌∙◌}
use Rattle.std.specs.List.{slice_get, sum_by, flat_map}
use Rattle.std.proofs.lemmas.List.{take-append-drop, length-take, length-drop, length-append, take-append-le}
use Rattle.std.proofs.lemmas.List.{drop-append-le, take_all, drop-drop, length-map, take-map, drop-map}
use Rattle.std.proofs.Math.Nat.{zero-mul, mul-div_cancel}
use Rattle.std.proofs.lemmas.List.Sums.{sum_by-append, sum_by-cons}
use Rattle.std.specs.Option.{option_map}
use Rattle.dl_table.specs.declared.form.Format.{Format}
use Rattle.dl_table.specs.declared.table.Pair.{Pair}
use Rattle.dl_table.specs.declared.table.held.StoredValue.{StoredValue}
use Rattle.dl_table.specs.Value.{Value}
use Rattle.dl_table.specs.TableData.{TableData}
use Rattle.dl_table.specs.EntryData.{with_content}
use Rattle.dl_table.specs.declared.table.held.StoredValue.TheVariants as held
use Rattle.dl_table.specs.TableCells.{value_cells, table_cells}
use Rattle.dl_table.specs.Held.{cells_held, held_end, rows, table_of, value_held, values_end, IsWhole}
use Rattle.dl_table.proofs.HeldLemmas.{length-rows, whole_rows}

-- one row more
pub rows-push : {A : Type 0} (n width : ℕ) (xs ys : List A) → length xs ≡ n * width → length ys ≡ width
    → rows (suc n) width (xs ++ ys) ≡ rows n width xs ++ ys ∷ []
rows-push zero width [] ys h k = rw (take_all width ys (omega arith)) refl
rows-push zero width (x ∷ xs) ys h k = absurd (omega arith)
rows-push (suc n) width xs ys h k =
    let enough : width ≤ length xs = omega arith in
    let rest : length (drop width xs) ≡ n * width = omega (arith, length-drop width xs) in
    rw (
      take-append-le width xs ys enough,
      drop-append-le width xs ys enough,
      rows-push n width (drop width xs) ys rest k,
    ) refl

-- a row by its number
pub slice_get-rows : {A : Type 0} (n width : ℕ) (xs : List A) (i : ℕ) → i < n
    → slice_get (rows n width xs) i ≡ Some (take width (drop (i * width) xs))
slice_get-rows zero width xs i h = absurd (omega arith)
slice_get-rows (suc n) width xs zero h = rw zero-mul refl
slice_get-rows (suc n) width xs (suc i) h =
    let e : suc i * width ≡ width + i * width = omega arith in
    rw (slice_get-rows n width (drop width xs) i (omega arith), drop-drop (i * width) width xs, e) refl

-- joined, the rows are all the values
pub joined_rows : {A : Type 0} (n width : ℕ) (xs : List A) → length xs ≡ n * width
    → flat_map (λ row. row) (rows n width xs) ≡ xs
joined_rows zero width [] h = refl
joined_rows zero width (x ∷ xs) h = absurd (omega arith)
joined_rows (suc n) width xs h =
    let rest : length (drop width xs) ≡ n * width = omega (arith, length-drop width xs) in
    rw (joined_rows n width (drop width xs) rest) (take-append-drop width xs)

-- summed row by row
pub sum_by-rows : {A : Type 0} (f : A → ℕ) (n width : ℕ) (xs : List A) → length xs ≡ n * width
    → sum_by (λ row. sum_by f row) (rows n width xs) ≡ sum_by f xs
sum_by-rows f zero width [] h = refl
sum_by-rows f zero width (x ∷ xs) h = absurd (omega arith)
sum_by-rows f (suc n) width xs h =
    let rest : length (drop width xs) ≡ n * width = omega (arith, length-drop width xs) in
    let first = sum_by-rows f n width (drop width xs) rest in
    let joined = sum_by-append f (take width xs) (drop width xs) in
    let whole = ap (sum_by f) (take-append-drop width xs) in
    sum_by-cons (λ row. sum_by f row) (take width xs) (rows n width (drop width xs)) ∙ omega arith

-- an entry of a table: a row of its values
pub entry_at : (format : Format) (pairs : List Pair) (values : List StoredValue) (pool : List ℕ) (d : TableData) (i : ℕ)
    → table_of format pairs values pool ≡ d → i < length d.entries
    → option_map (with_content d.pairs) (slice_get d.entries i)
    ≡ Some (with_content pairs (map (value_held pool) (take (length pairs) (drop (i * length pairs) values))))
entry_at format pairs values pool d i is within =
    let count = length values / length pairs in
    let all = map (value_held pool) values in
    let enough : i < count = omega
    (arith, ap (λ (t : TableData). length t.entries) is, length-rows count (length pairs) all) in
    let row = slice_get-rows count (length pairs) all i enough in
    ap (λ (t : TableData). option_map (with_content t.pairs) (slice_get t.entries i)) (sym is)
    ∙ ap (option_map (with_content pairs)) row
    ∙ ap (λ vs. Some (with_content pairs vs))
    (ap (take (length pairs)) (drop-map (value_held pool) (i * length pairs) values)
    ∙ take-map (value_held pool) (length pairs) (drop (i * length pairs) values))

pub cells_value : (pool : List ℕ) (h : StoredValue) → held_end h ≤ length pool
    → value_cells (value_held pool h) ≡ cells_held h
cells_value pool (held.Text e) h = omega (arith, length-take e.len (drop e.start pool), length-drop e.start pool)
cells_value pool (held.LineStr n) h = refl
cells_value pool (held.Str n) h = refl
cells_value pool (held.StrSup n) h = refl
cells_value pool (held.Number n) h = refl
cells_value pool (held.Block e) h = omega (arith, length-take e.len (drop e.start pool), length-drop e.start pool)
cells_value pool (held.Data16 w) h = refl

pub cells_values : (pool : List ℕ) (values : List StoredValue) → values_end values ≤ length pool
    → sum_by value_cells (map (value_held pool) values) ≡ sum_by cells_held values
cells_values pool [] h = refl
cells_values pool (v ∷ values) h =
    omega (
      arith,
      sum_by-cons value_cells (value_held pool v) (map (value_held pool) values),
      sum_by-cons cells_held v values,
      cells_value pool v (omega arith),
      cells_values pool values (omega arith),
    )

-- the cells of a table are its pairs and those of its values
pub cells_table : (format : Format) (pairs : List Pair) (values : List StoredValue) (pool : List ℕ)
    → values_end values ≤ length pool → IsWhole (length values) (length pairs)
    → table_cells (table_of format pairs values pool) ≡ length pairs + sum_by cells_held values
cells_table format pairs values pool within whole =
    let all = map (value_held pool) values in
    let counted : length all ≡ length values / length pairs * length pairs =
    omega (arith, length-map values (value_held pool)) in
    omega (
      arith,
      sum_by-rows value_cells (length values / length pairs) (length pairs) all counted,
      cells_values pool values within,
    )

-- one value more for each pair is one row more
pub length-push : (pairs : List Pair) (values v : List StoredValue) (pool p : List ℕ) (new : List Value)
    → IsWhole (length values) (length pairs) → length new ≡ length pairs
    → map (value_held p) v ≡ map (value_held pool) values ++ new
    → length v ≡ suc (length values / length pairs) * length pairs
length-push pairs values v pool p new whole each is =
    let joined = ap length is in
    omega (
      arith,
      length-map v (value_held p),
      length-map values (value_held pool),
      length-append (map (value_held pool) values) new,
    )

pub whole-push : (pairs : List Pair) (values v : List StoredValue) (pool p : List ℕ) (new : List Value)
    → IsWhole (length values) (length pairs) → length new ≡ length pairs
    → map (value_held p) v ≡ map (value_held pool) values ++ new → IsWhole (length v) (length pairs)
whole-push pairs values v pool p new whole each is =
    rw (length-push pairs values v pool p new whole each is)
    (whole_rows (suc (length values / length pairs)) (length pairs))

-- the row is one entry more
pub table_of-push : (format : Format) (pairs : List Pair) (values v : List StoredValue) (pool p : List ℕ)
    (new : List Value) → 0 < length pairs → IsWhole (length values) (length pairs) → length new ≡ length pairs
    → map (value_held p) v ≡ map (value_held pool) values ++ new
    → table_of format pairs v p ≡ record (table_of format pairs values
    pool) { entries = (table_of format pairs values pool).entries ++ new ∷ [] }
table_of-push format pairs values v pool p new some whole each is =
    let width = length pairs in
    let count = length values / width in
    let rows_now : length v / width ≡ suc count =
    ap (λ (n : ℕ). n / width) (length-push pairs values v pool p new whole each is)
    ∙ mul-div_cancel (suc count) some in
    let before : length (map (value_held pool) values) ≡ count * width =
    omega (arith, length-map values (value_held pool)) in
    let pushed = rows-push count width (map (value_held pool) values) new before each in
    let entries = ap (λ (n : ℕ). rows n width (map (value_held p) v)) rows_now
    ∙ ap (λ (all : List Value). rows (suc count) width all) is ∙ pushed in
    ap (λ (es : List (List Value)). record { format = format; pairs = pairs; entries = es }) entries
