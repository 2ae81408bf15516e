-- Texts of a header's tables are no longer than their cells.
use Rattle.std.proofs.Common.{◌≡◌, ◌≤◌, ℕ, zero, suc, ◌-◌, Bool, true, false, List, [], ◌∷◌, Option, Some, None, arith, subst, sum_by}
use Rattle.std.specs.Prelude.{◌==◌, cond, option_map, slice_get, nat_lt, IfSome}
use Rattle.std.proofs.lemmas.List.Sums.{sum_by-cons}
use Rattle.std.proofs.lemmas.Option.{IfSome_then}
use Rattle.dl_table.specs.declared.table.Pair.{Pair}
use Rattle.dl_field.specs.HeaderData.{HeaderData, header_cells}
use Rattle.dl_head.specs.Numbers.{directory_numbered, entry_numbered, file_numbered, first_number}
use Rattle.dl_table.specs.EntryData.{value_of, with_content}
use Rattle.dl_table.specs.TableCells.{table_cells, value_cells}
use Rattle.dl_table.specs.TableData.{TableData}
use Rattle.dl_table.specs.Value.{Value}
use Rattle.dl_path.specs.PathParts.{HeaderBytesWithin, header_bytes}
use Rattle.dl_path.specs.declared.parts.Parts.{Parts}
use Rattle.dl_path.specs.declared.parts.Text.{Text}

-- of a value that is some the condition holds
of_some : {A : Type 0} (P : A → Type 0) (o : Option A) (x : A) → IfSome o P → o ≡ Some x → P x
of_some P None x holds e = absurd cc
of_some P (Some y) x holds e = let same : y ≡ x = cc in subst P same holds

abbrev pub row_cells : List Value → ℕ
row_cells values = sum_by value_cells values

pub value_within : (pairs : List Pair) (values : List Value) (c : ℕ)
    → IfSome (value_of (with_content pairs values) c) (λ v. value_cells v ≤ row_cells values)
value_within [] values c = tt
value_within (p ∷ pairs) [] c = tt
value_within (p ∷ pairs) (v ∷ values) c =
    by (p.content == c) (value_of (with_content pairs values) c) (value_within pairs values c) where
      by : (is : Bool) (o : Option Value) → IfSome o (λ w. value_cells w ≤ row_cells values)
          → IfSome (cond is (Some v) o) (λ w. value_cells w ≤ row_cells (v ∷ values))
      by true o few = omega (arith, sum_by-cons value_cells v values)
      by false None few = tt
      by false (Some w) few = omega (arith, few, sum_by-cons value_cells v values)

pub row_within : (rows : List (List Value)) (n : ℕ) → IfSome (slice_get rows n) (λ e. row_cells e ≤ sum_by row_cells rows)
row_within [] n = tt
row_within (e ∷ rows) zero = omega (arith, sum_by-cons row_cells e rows)
row_within (e ∷ rows) (suc n) =
    IfSome_then (slice_get rows n) (row_within rows n) (λ x few. omega (arith, few, sum_by-cons row_cells e rows))

-- a value of an entry of a table
numbered_cells : (t : TableData) (first n : ℕ) (items : List (ℕ × Value)) (c : ℕ) (v : Value)
    → Some items ≡ entry_numbered first t n → value_of items c ≡ Some v → value_cells v ≤ table_cells t
numbered_cells t first n items c v is at =
    by (nat_lt n first) (slice_get t.entries (n - first)) (row_within t.entries (n - first)) is where
      by : (before : Bool) (o : Option (List Value)) → IfSome o (λ e. row_cells e ≤ sum_by row_cells t.entries)
          → Some items ≡ cond before None (option_map (with_content t.pairs) o) → value_cells v ≤ table_cells t
      by true o within e = absurd cc
      by false None within e = absurd cc
      by false (Some values) within e =
          let same : items ≡ with_content t.pairs values = cc in
          let few : value_cells v ≤ row_cells values =
          of_some (λ w. value_cells w ≤ row_cells values) (value_of items c) v (rw same (value_within t.pairs values c)) at in
          omega (arith, few, within)

pub file_cells : (h : HeaderData) (n : ℕ) (items : List (ℕ × Value)) (c : ℕ) (v : Value)
    → Some items ≡ file_numbered h n → value_of items c ≡ Some v → value_cells v ≤ header_cells h
file_cells h n items c v is at =
    omega (arith, numbered_cells h.files (first_number h.params) n items c v is at)

pub directory_cells : (h : HeaderData) (n : ℕ) (items : List (ℕ × Value)) (c : ℕ) (v : Value)
    → Some items ≡ directory_numbered h n → value_of items c ≡ Some v → value_cells v ≤ header_cells h
directory_cells h n items c v is at =
    omega (arith, numbered_cells h.directories (first_number h.params) n items c v is at)

-- a path with no directory before it
pub alone_within : (most : ℕ) (p : Parts) (name : Text) → p.base ≡ None → p.directory ≡ None → p.name ≡ name
    → header_bytes name ≤ most → HeaderBytesWithin most p
alone_within most p name base directory is few = record {
  base = rw base tt;
  directory = rw directory tt;
  name = rw is few;
}
