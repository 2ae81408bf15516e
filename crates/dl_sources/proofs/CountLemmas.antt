-- Rows that are counted, one more.
use Rattle.std.proofs.Common.{◌≡◌, ℕ, ◌+◌, ◌-◌, Bool, true, false, List, [], ◌∷◌, ◌++◌, Option, Some, None}
use Rattle.std.proofs.Common.{arith, refl, sym, ap, ap₂, ◌∙◌}
use Rattle.std.specs.Prelude.{if◌then◌else◌, ◌==◌, ◌&&◌, not}
use Rattle.std.proofs.lemmas.List.Sums.{sum_by_push}
use Rattle.dl_rows.specs.declared.row.Row.{Row}
use Rattle.dl_sources.specs.declared.counting.Begun.{Begun}
use Rattle.dl_sources.specs.Counting.{begun_by, last_begun, with_gap, with_row}
use Rattle.dl_sources.specs.Counts.{at_most_64_bits, bytes_named, counts_of, names, plus, rows_named}

pub rows_push : (n : ℕ) (rows : List Row) (r : Row) → rows_named n (rows ++ r ∷ []) ≡ rows_named n rows + (if names n r then 1 else 0)
rows_push n rows r = sum_by_push (λ x. if names n x then 1 else 0) rows r

-- the bytes that a row at this address adds
abbrev pub gap_bytes : (n : ℕ) → Option Begun → (address : ℕ) → ℕ
gap_bytes n None address = 0
gap_bytes n (Some b) address = if n == b.file then address - b.address else 0

first_gap : (n : ℕ) (is_end : Bool) (file start address : ℕ)
    → (if not is_end && (n == file) then address - start else 0)
    ≡ gap_bytes n (if is_end then None else Some (record { file = file; address = start })) address
first_gap n true file start address = refl
first_gap n false file start address = refl

pub bytes_push : (n : ℕ) (rows : List Row) (r : Row)
    → bytes_named n (rows ++ r ∷ []) ≡ bytes_named n rows + gap_bytes n (last_begun rows) r.address
bytes_push n [] r = refl
bytes_push n (x ∷ []) r = omega (arith, first_gap n x.end_sequence x.file x.address r.address)
bytes_push n (x ∷ y ∷ rows) r = omega (arith, bytes_push n (y ∷ rows) r)

pub last_push : (rows : List Row) (r : Row) → last_begun (rows ++ r ∷ []) ≡ begun_by r
last_push [] r = refl
last_push (x ∷ []) r = refl
last_push (x ∷ y ∷ rows) r = last_push (y ∷ rows) r

gap_is : (n : ℕ) (last : Option Begun) (address rows bytes : ℕ)
    → with_gap n last address (record { rows = at_most_64_bits rows; bytes = at_most_64_bits bytes })
    ≡ record { rows = at_most_64_bits rows; bytes = at_most_64_bits (bytes + gap_bytes n last address) }
gap_is n None address rows bytes = ap (λ m. record { rows = at_most_64_bits rows; bytes = at_most_64_bits m }) (omega arith)
gap_is n (Some b) address rows bytes = by (n == b.file) where
  by : (is : Bool)
      → (if is then plus (record { rows = at_most_64_bits rows; bytes = at_most_64_bits bytes })
      (record { rows = 0; bytes = address - b.address }) else record { rows = at_most_64_bits rows; bytes = at_most_64_bits bytes })
      ≡ record { rows = at_most_64_bits rows; bytes = at_most_64_bits (bytes + (if is then address - b.address else 0)) }
  by true = ap₂ (λ r m. record { rows = r; bytes = m }) (omega arith) (omega arith)
  by false = ap (λ m. record { rows = at_most_64_bits rows; bytes = at_most_64_bits m }) (omega arith)

row_is : (is : Bool) (rows bytes : ℕ)
    → (if is then plus (record { rows = at_most_64_bits rows; bytes = at_most_64_bits bytes }) (record { rows = 1; bytes = 0 })
    else record { rows = at_most_64_bits rows; bytes = at_most_64_bits bytes })
    ≡ record { rows = at_most_64_bits (rows + (if is then 1 else 0)); bytes = at_most_64_bits bytes }
row_is true rows bytes = ap₂ (λ r m. record { rows = r; bytes = m }) (omega arith) (omega arith)
row_is false rows bytes = ap (λ m. record { rows = at_most_64_bits m; bytes = at_most_64_bits bytes }) (omega arith)

-- the counts of the rows, with what one more adds
pub counts_push : (n : ℕ) (rows : List Row) (r : Row)
    → with_row n r (with_gap n (last_begun rows) r.address (counts_of n rows)) ≡ counts_of n (rows ++ r ∷ [])
counts_push n rows r =
    ap (with_row n r) (gap_is n (last_begun rows) r.address (rows_named n rows) (bytes_named n rows))
    ∙ row_is (names n r) (rows_named n rows) (bytes_named n rows + gap_bytes n (last_begun rows) r.address)
    ∙ ap₂ (λ a b. record { rows = at_most_64_bits a; bytes = at_most_64_bits b }) (sym (rows_push n rows r)) (sym (bytes_push n rows r))
