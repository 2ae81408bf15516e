-- Bytes and numbers of a range of a file.
use Rattle.std.proofs.Common.{◌≡◌, ℕ, ◌+◌, ◌-◌, ◌*◌, ◌<◌, ◌≤◌, List, ◌++◌, take, drop, length, length-take, sym, ap, ◌∙◌, arith}
use Rattle.std.proofs.lemmas.List.{drop-drop, drop-take, take-take, take-append-le}
use Rattle.std.proofs.Math.Nat.{add-mul}
use Rattle.dl_num.specs.Fixed.{little}
use Rattle.dl_index.specs.Columns.{number_at, size_of}
use Rattle.dl_index.specs.declared.width.Width.{Width}
use Rattle.dl_index.specs.declared.width.Width.TheVariants.{One, Two, Four, Eight}

-- a piece of a range
pub piece : (b : List ℕ) (offset size at len : ℕ) → at + len ≤ size
    → take len (drop at (take size (drop offset b))) ≡ take len (drop (offset + at) b)
piece b offset size at len inside =
    let all : at + (size - at) ≡ size = omega arith in
    ap (λ n. take len (drop at (take n (drop offset b)))) (sym all)
    ∙ ap (take len) (drop-take at (size - at) (drop offset b))
    ∙ take-take len (size - at) (drop at (drop offset b)) (omega arith)
    ∙ ap (take len) (drop-drop at offset b)

pub size_small : (w : Width) → size_of w ≤ 8
size_small One = omega arith
size_small Two = omega arith
size_small Four = omega arith
size_small Eight = omega arith

-- what was read into the front of a buffer
pub read_is : (rest zeros part tail : List ℕ) (n s at : ℕ) → n ≡ s → s ≤ length zeros
    → length part ≡ length (take n zeros) → part ≡ take (length (take n zeros)) (drop at rest)
    → take s (take n (part ++ tail)) ≡ take s (drop at rest)
read_is rest zeros part tail n s at is small len read =
    let m = length-take n zeros in
    take-take s n (part ++ tail) (omega arith) ∙ take-append-le s part tail (omega arith) ∙ ap (take s) read
    ∙ take-take s (length (take n zeros)) (drop at rest) (omega arith)

pub first_number : (s : ℕ) (column : List ℕ) → number_at s column 0 ≡ little (take s column)
first_number s column =
    let none : 0 * s ≡ 0 = omega arith in
    ap (λ n. little (take s (drop n column))) none

-- number k of a column lies in it
pub within_column : (s k count : ℕ) → k < count → k * s + s ≤ count * s
within_column s k count less =
    let all : k + 1 + (count - (k + 1)) ≡ count = omega arith in
    let whole : (k + 1 + (count - (k + 1))) * s ≡ count * s = ap (λ n. n * s) all in
    omega (arith, add-mul (k + 1) (count - (k + 1)) s, add-mul k 1 s, whole)

-- the numbers of a piece of a column, of which the first is number `low`
pub number_of_piece : (b : List ℕ) (offset s count low left k : ℕ) → low + left ≤ count → k < left
    → number_at s (take (left * s) (drop (offset + low * s) b)) k
    ≡ number_at s (take (count * s) (drop offset b)) (low + k)
number_of_piece b offset s count low left k within less =
    let here = within_column s k left less in
    let there = within_column s (low + k) count (omega arith) in
    let e : offset + low * s + k * s ≡ offset + (low + k) * s = omega (arith, add-mul low k s) in
    ap
    little
    (piece b (offset + low * s) (left * s) (k * s) s here ∙ ap (λ n. take s (drop n b)) e
    ∙ sym (piece b offset (count * s) ((low + k) * s) s there))

-- what was read into the front of a buffer
pub filled_is : (b zeros part rest : List ℕ) (n offset : ℕ) → n ≤ length zeros → length part ≡ length (take n zeros)
    → part ≡ take (length (take n zeros)) (drop offset b) → take n (part ++ rest) ≡ take n (drop offset b)
filled_is b zeros part rest n offset small len read =
    let m = length-take n zeros in
    take-append-le n part rest (omega arith) ∙ ap (take n) read
    ∙ take-take n (length (take n zeros)) (drop offset b) (omega arith)
