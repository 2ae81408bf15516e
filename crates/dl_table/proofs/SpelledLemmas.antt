-- How many bytes the parts of a table are, one after another.
use Rattle.std.proofs.Common.{◌≡◌, ℕ, zero, suc, ◌+◌, ◌*◌, ◌<◌, ◌≤◌, List, [], length, take, drop, map, get_or, refl}
use Rattle.std.proofs.Common.{sym, ap, ◌∙◌, arith}
use Rattle.std.specs.List.{flat_map}
use Rattle.std.proofs.lemmas.List.{drop_more, drop_all, drop-drop, length-append, length-map, take-map}
use Rattle.std.proofs.lemmas.List.{drop-map}
use Rattle.std.proofs.Math.Nat.{zero-mul}
use Rattle.dl_num.specs.declared.fixed.Order.{Order}
use Rattle.dl_table.specs.declared.form.Format.{Format}
use Rattle.dl_table.specs.declared.table.Pair.{Pair}
use Rattle.dl_table.specs.declared.table.held.StoredValue.{StoredValue}
use Rattle.dl_table.specs.Value.{Value, number}
use Rattle.dl_table.specs.Held.{rows, value_held}
use Rattle.dl_table.specs.Written.{entry_bytes, value_bytes}
use Rattle.dl_table.proofs.BuildLemmas.{no_pair}
use Rattle.dl_table.proofs.HeldLemmas.{value_at}

-- the parts from a place on: the part there, and those after it
pub parts_from : {A : Type 0} (f : A → List ℕ) (xs : List A) (i : ℕ) (d : A) → i < length xs
    → length (flat_map f (drop i xs)) ≡ length (f (get_or xs i d)) + length (flat_map f (drop (i + 1) xs))
parts_from f xs i d h = rw (drop_more xs i d h) (length-append (f (get_or xs i d)) (flat_map f (drop (i + 1) xs)))

pub parts_end : {A : Type 0} (f : A → List ℕ) (xs : List A) (i : ℕ) → length xs ≤ i
    → length (flat_map f (drop i xs)) ≡ 0
parts_end f xs i h = rw (drop_all i xs h) refl

-- the same of an entry, whose parts are the values in the forms of their pairs
pub entry_from : (order : Order) (format : Format) (pairs : List Pair) (held : List StoredValue) (pool : List ℕ) (i : ℕ)
    {h : StoredValue} → i < length pairs → i < length held → h ≡ get_or held i h
    → length (entry_bytes order format (drop i pairs) (drop i (map (value_held pool) held)))
    ≡ length (value_bytes order format (get_or pairs i no_pair).form (value_held pool h))
    + length (entry_bytes order format (drop (i + 1) pairs) (drop (i + 1) (map (value_held pool) held)))
entry_from order format pairs held pool i {h} in_pairs in_held is =
    let all = map (value_held pool) held in
    let within : i < length all = omega (arith, length-map held (value_held pool)) in
    rw (drop_more pairs i no_pair in_pairs, drop_more all i (number 0) within, value_at pool held i in_held is)
    (length-append (value_bytes order format (get_or pairs i no_pair).form (value_held pool h))
    (entry_bytes order format (drop (i + 1) pairs) (drop (i + 1) all)))

pub entry_end : (order : Order) (format : Format) (pairs : List Pair) (values : List Value) (i : ℕ) → length pairs ≤ i
    → length (entry_bytes order format (drop i pairs) (drop i values)) ≡ 0
entry_end order format pairs values i h = rw (drop_all i pairs h) refl

-- a row by its number
pub get_or-rows : {A : Type 0} (n width : ℕ) (xs : List A) (i : ℕ) (d : List A) → i < n
    → get_or (rows n width xs) i d ≡ take width (drop (i * width) xs)
get_or-rows zero width xs i d h = absurd (omega arith)
get_or-rows (suc n) width xs zero d h = rw zero-mul refl
get_or-rows (suc n) width xs (suc i) d h =
    let e : suc i * width ≡ width + i * width = omega arith in
    rw (get_or-rows n width (drop width xs) i d (omega arith), drop-drop (i * width) width xs, e) refl

-- the values of a row of what is held
pub row_at : (n width : ℕ) (pool : List ℕ) (values : List StoredValue) (i : ℕ) (held : List StoredValue) → i < n
    → held ≡ take width (drop (i * width) values)
    → get_or (rows n width (map (value_held pool) values)) i [] ≡ map (value_held pool) held
row_at n width pool values i held h is =
    get_or-rows n width (map (value_held pool) values) i [] h
    ∙ ap (take width) (drop-map (value_held pool) (i * width) values)
    ∙ take-map (value_held pool) width (drop (i * width) values) ∙ ap (map (value_held pool)) (sym is)
