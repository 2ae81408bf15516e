-- Where the bytes of values end in a pool.
use Rattle.std.proofs.Common.{◌≡◌, ℕ, zero, suc, ◌+◌, ◌*◌, ◌/◌, ◌<◌, ◌≤◌, List, [], ◌∷◌, ◌++◌, length, take, drop, map}
use Rattle.std.proofs.Common.{get_or, max, refl, sym, ap, arith, ◌∙◌}
use Rattle.std.proofs.lemmas.List.{take-append-drop, take-append-le, drop-append-le, length-drop}
use Rattle.std.proofs.lemmas.List.{map-append, take_more, append_assoc, get_or-map}
use Rattle.dl_table.specs.declared.table.held.StoredValue.{StoredValue}
use Rattle.std.proofs.Math.Nat.{mul-le-mul_right, div-mul-le_self, mul-div_cancel}
use Rattle.dl_table.specs.declared.table.held.Extent.{Extent}
use Rattle.dl_table.specs.declared.table.held.ValueRef.{ValueRef}
use Rattle.dl_table.specs.declared.table.held.StoredValue.TheVariants as held
use Rattle.dl_table.specs.Value.{Value, text, number, block}
use Rattle.dl_table.specs.Held.{bytes_at, held_end, value_held, value_lent, values_end, rows, IsWhole}

pub values_end-append : (xs ys : List StoredValue) → values_end (xs ++ ys) ≡ max (values_end xs) (values_end ys)
values_end-append [] ys = omega arith
values_end-append (x ∷ xs) ys = omega (arith, values_end-append xs ys)

pub values_end-push : (xs : List StoredValue) (y : StoredValue)
    → values_end (xs ++ y ∷ []) ≡ max (values_end xs) (held_end y)
values_end-push xs y = omega (arith, values_end-append xs (y ∷ []))

pub ruleset pushes = (values_end-push)

-- no value ends after all of them
held_end-at : (xs : List StoredValue) (i : ℕ) (d : StoredValue) → i < length xs
    → held_end (get_or xs i d) ≤ values_end xs
held_end-at [] i d h = absurd (omega arith)
held_end-at (x ∷ xs) zero d h = omega arith
held_end-at (x ∷ xs) (suc i) d h = let e = held_end-at xs i d (omega arith) in omega arith

pub held_end-le : (xs : List StoredValue) (i : ℕ) {h : StoredValue} → i < length xs → h ≡ get_or xs i h
    → held_end h ≤ values_end xs
held_end-le xs i {h} k is = omega (arith, held_end-at xs i h k, ap held_end is)

-- the value at a place, by what is held there
pub value_at : (pool : List ℕ) (xs : List StoredValue) (i : ℕ) {h : StoredValue} → i < length xs → h ≡ get_or xs i h
    → get_or (map (value_held pool) xs) i (number 0) ≡ value_held pool h
value_at pool xs i {h} k is =
    get_or-map (value_held pool) xs i h (number 0) k ∙ ap (value_held pool) (sym is)

pub values_end-take : (xs : List StoredValue) (n : ℕ) → values_end (take n xs) ≤ values_end xs
values_end-take xs n =
    let e = values_end-append (take n xs) (drop n xs) in
    let f = ap values_end (take-append-drop n xs) in
    omega arith

pub values_end-drop : (xs : List StoredValue) (n : ℕ) → values_end (drop n xs) ≤ values_end xs
values_end-drop xs n =
    let e = values_end-append (take n xs) (drop n xs) in
    let f = ap values_end (take-append-drop n xs) in
    omega arith

pub length-rows : {A : Type 0} (count width : ℕ) (xs : List A) → length (rows count width xs) ≡ count
length-rows zero width xs = refl
length-rows (suc count) width xs = omega (arith, length-rows count width (drop width xs))

-- a row ends within the elements
pub row_within : (i width n : ℕ) → i < n / width → i * width + width ≤ n
row_within i width n h =
    let a : (i + 1) * width ≤ n / width * width = mul-le-mul_right width (omega arith) in
    let b = div-mul-le_self n width in
    omega arith

-- a number of rows is whole
pub whole_rows : (n width : ℕ) → IsWhole (n * width) width
whole_rows n zero = omega arith
whole_rows n (suc width) = ap (λ k. k * suc width) (mul-div_cancel n (omega arith))

-- more bytes in the pool change no value
bytes_at-more : (pool more : List ℕ) (e : Extent) → e.start + e.len ≤ length pool
    → bytes_at (pool ++ more) e ≡ bytes_at pool e
bytes_at-more pool more e h =
    let start : e.start ≤ length pool = omega arith in
    let len : e.len ≤ length (drop e.start pool) = omega (arith, length-drop e.start pool) in
    rw (drop-append-le e.start pool more start, take-append-le e.len (drop e.start pool) more len) refl

pub value_held-more : (pool more : List ℕ) (h : StoredValue) → held_end h ≤ length pool
    → value_held (pool ++ more) h ≡ value_held pool h
value_held-more pool more (held.Text e) h = ap text (bytes_at-more pool more e h)
value_held-more pool more (held.LineStr n) h = refl
value_held-more pool more (held.Str n) h = refl
value_held-more pool more (held.StrSup n) h = refl
value_held-more pool more (held.Number n) h = refl
value_held-more pool more (held.Block e) h = ap block (bytes_at-more pool more e h)
value_held-more pool more (held.Data16 w) h = refl

pub values_held-more : (pool more : List ℕ) (values : List StoredValue) → values_end values ≤ length pool
    → map (value_held (pool ++ more)) values ≡ map (value_held pool) values
values_held-more pool more [] h = refl
values_held-more pool more (v ∷ values) h =
    rw (value_held-more pool more v (omega arith), values_held-more pool more values (omega arith)) refl

-- a value is held after the others, and its bytes after theirs
pub values_held-push : (pool more : List ℕ) (values : List StoredValue) (h : StoredValue) (v : Value)
    → values_end values ≤ length pool → value_held (pool ++ more) h ≡ v
    → map (value_held (pool ++ more)) (values ++ h ∷ []) ≡ map (value_held pool) values ++ v ∷ []
values_held-push pool more values h v within is =
    rw (map-append (value_held (pool ++ more)) values (h ∷ []), values_held-more pool more values within, is) refl

-- one value more of those that are lent
pub values_lent-more : (before now : List Value) (values : List ValueRef) (i : ℕ) (d : ValueRef) → i < length values
    → now ≡ before ++ map value_lent (take i values)
    → now ++ value_lent (get_or values i d) ∷ [] ≡ before ++ map value_lent (take (i + 1) values)
values_lent-more before now values i d h is =
    rw (take_more values i d h, map-append value_lent (take i values) (get_or values i d ∷ []), is)
    (append_assoc before (map value_lent (take i values)) (value_lent (get_or values i d) ∷ []))
