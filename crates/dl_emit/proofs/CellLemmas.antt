-- The cells of the tables that are made, which are no more than what was given allows.
use Rattle.std.proofs.Common.{◌≡◌, ℕ, ◌+◌, ◌*◌, ◌≤◌, Bool, true, false, cond, eqb, List, [], ◌∷◌, ◌++◌, length, map}
use Rattle.std.proofs.Common.{Option, Some, None, option_map, refl, ap, arith}
use Rattle.std.specs.Prelude.{unwrap_or}
use Rattle.std.specs.List.{AllByRecursion, list_any}
use Rattle.std.proofs.lemmas.Bool.{ne_eqb}
use Rattle.std.proofs.lemmas.List.Sums.{sum_by-cons}
use Rattle.dl_table.specs.declared.form.Format.{Format}
use Rattle.dl_table.specs.declared.table.Pair.{Pair}
use Rattle.dl_table.specs.Built.{entry_fault, entry_fault_of, wrong_value}
use Rattle.dl_table.specs.EntryData.{value_of, with_content}
use Rattle.dl_table.specs.Sound.{IsSoundTable}
use Rattle.dl_table.specs.TableCells.{table_cells, value_cells}
use Rattle.dl_table.specs.TableData.{TableData}
use Rattle.dl_table.specs.Text.{text_in}
use Rattle.dl_table.specs.Value.{Value, text, number, block}
use Rattle.dl_field.specs.HeaderData.{HeaderData, header_cells}
use Rattle.dl_emit.specs.Conversion.{before_zero, directory_entry, entries_in, file_entry, file_pairs}
use Rattle.dl_emit.specs.Conversion.{first_directory, first_of, has_number, kept_numbers, new_directories, new_files}
use Rattle.dl_emit.specs.Conversion.{number_in, path_in, text_or_empty, to_version_5}
use Rattle.dl_emit.specs.Conversion.{version_5_params}
use Rattle.dl_emit.specs.Parts.{cells_of, directories_from}
use Rattle.dl_emit.proofs.PartLemmas.{entries_cells}

abbrev entry_cells : List Value → ℕ
entry_cells entry = cells_of entry

one_cell : (v : Value) → 1 ≤ value_cells v
one_cell (text w) = omega arith
one_cell (block w) = omega arith
one_cell v = omega arith

values_few : (values : List Value) → length values ≤ entry_cells values
values_few [] = omega arith
values_few (v ∷ values) = omega (arith, sum_by-cons value_cells v values, values_few values, one_cell v)

-- the bytes of the path of an entry, beside one cell for each value
path_few : (pairs : List Pair) (values : List Value)
    → length (path_in (with_content pairs values)) + length values ≤ entry_cells values
path_few [] values = omega (arith, values_few values)
path_few (p ∷ pairs) [] = omega arith
path_few (p ∷ pairs) (v ∷ values) = by v (eqb p.content 1) (path_few pairs values) where
  by : (v : Value) (first : Bool)
      → length (path_in (with_content pairs values)) + length values ≤ entry_cells values
      → length (text_or_empty (cond first (Some v) (value_of (with_content pairs values) 1))) + length (v ∷ values)
      ≤ entry_cells (v ∷ values)
  by v false few = omega (arith, few, one_cell v, sum_by-cons value_cells v values)
  by (text w) true few = omega (arith, few, sum_by-cons value_cells (text w) values)
  by v true few = omega (arith, few, one_cell v, sum_by-cons value_cells v values)

full_of : (format : Format) (pairs : List Pair) (values : List Value)
    → entry_fault_of pairs (wrong_value format 0 pairs values) ≡ None → 1 ≤ length values
full_of format [] values right = absurd cc
full_of format (p ∷ pairs) [] right = absurd cc
full_of format (p ∷ pairs) (v ∷ values) right = omega arith

module _ (t : TableData) where
  abbrev AreRight : List (List Value) → Type 0
  AreRight es = AllByRecursion (λ (values : List Value). entry_fault t values ≡ None) es

  path_fits : (values : List Value) → entry_fault t values ≡ None
      → 1 + length (path_in (with_content t.pairs values)) ≤ entry_cells values
  path_fits values right = omega (arith, path_few t.pairs values, full_of t.format t.pairs values right)

  directories_few : (es : List (List Value)) → AreRight es
      → entries_cells (map directory_entry (map (with_content t.pairs) es)) ≤ entries_cells es
  directories_few [] right = omega arith
  directories_few (e ∷ es) right = omega (
    arith,
    path_fits e right.0,
    directories_few es right.1,
    sum_by-cons entry_cells e es,
    sum_by-cons entry_cells (directory_entry (with_content t.pairs e))
        (map directory_entry (map (with_content t.pairs) es)),
    sum_by-cons value_cells (text (path_in (with_content t.pairs e))) [],
  )

  files_few : (numbers : List ℕ) → length numbers ≤ 3 → (es : List (List Value)) → AreRight es
      → entries_cells (map (file_entry numbers) (map (with_content t.pairs) es)) ≤ 4 * entries_cells es
  files_few numbers few [] right = omega arith
  files_few numbers few (e ∷ es) right =
      let file = with_content t.pairs e in omega (
        arith,
        few,
        path_fits e right.0,
        files_few numbers few es right.1,
        sum_by-cons entry_cells e es,
        sum_by-cons entry_cells (file_entry numbers file) (map (file_entry numbers) (map (with_content t.pairs) es)),
        sum_by-cons value_cells (text (path_in file)) (map (λ content. number (number_in file content)) numbers),
        numbers_few (number_in file) numbers,
      ) where
        numbers_few : (f : ℕ → ℕ) (numbers : List ℕ)
            → entry_cells (map (λ content. number (f content)) numbers) ≡ length numbers
        numbers_few f [] = omega arith
        numbers_few f (n ∷ numbers) =
            omega (
              arith,
              numbers_few f numbers,
              sum_by-cons value_cells (number (f n)) (map (λ content. number (f content)) numbers),
            )

-- the first again
twice : {A : Type 0} (f : A → List Value) (xs : List A)
    → entries_cells (map f (first_of xs ++ xs)) ≤ 2 * entries_cells (map f xs)
twice f [] = omega arith
twice f (x ∷ xs) = omega (
  arith,
  sum_by-cons entry_cells (f x) (map f xs),
  sum_by-cons entry_cells (f x) (map f (x ∷ xs)),
)

few_numbers : (times sizes : Bool) → length (kept_numbers times sizes) ≤ 3
few_numbers true true = omega arith
few_numbers true false = omega arith
few_numbers false true = omega arith
few_numbers false false = omega arith

few_pairs : (times sizes : Bool) → length (file_pairs (kept_numbers times sizes)) ≤ 4
few_pairs true true = omega arith
few_pairs true false = omega arith
few_pairs false true = omega arith
few_pairs false false = omega arith

before_few : (w : List ℕ) → length (before_zero w) ≤ length w
before_few [] = omega arith
before_few (b ∷ w) = by (eqb b 0) (text_in w) (before_few w) where
  by : (z : Bool) (o : Option (List ℕ)) → length (unwrap_or o w) ≤ length w
      → length (unwrap_or (cond z (Some []) (option_map (λ t. b ∷ t) o)) (b ∷ w)) ≤ length (b ∷ w)
  by true o few = omega arith
  by false (Some t) few = omega arith
  by false None few = omega arith

first_few : (directory : Option (List ℕ)) → length (first_directory directory) ≤ length (unwrap_or directory []) + 1
first_few None = omega arith
first_few (Some w) = omega (arith, before_few w)

new_directories_few : (directory : Option (List ℕ)) (t : TableData) → IsSoundTable t
    → table_cells (new_directories directory t) ≤ table_cells t + length (unwrap_or directory []) + 3
new_directories_few directory t sound =
    let first = first_directory directory in omega (
      arith,
      first_few directory,
      directories_few t t.entries sound.entries,
      sum_by-cons entry_cells (text first ∷ []) (map directory_entry (entries_in t)),
      sum_by-cons value_cells (text first) [],
    )

new_files_few : (t : TableData) → IsSoundTable t → table_cells (new_files t) ≤ 8 * table_cells t + 4
new_files_few t sound =
    let files = entries_in t in
    let times = list_any (has_number 3) files in
    let sizes = list_any (has_number 4) files in
    let numbers = kept_numbers times sizes in
    omega (
      arith,
      few_pairs times sizes,
      twice (file_entry numbers) files,
      files_few t numbers (few_numbers times sizes) t.entries sound.entries,
    )

module _ (h : HeaderData) (directory : Option (List ℕ)) where
  -- the tables are made anew
  cells_made : (h.params.version ≡ 5 → ⊥) → header_cells (to_version_5 h directory)
      ≡ table_cells (new_directories directory h.directories) + table_cells (new_files h.files)
  cells_made older = rw (ne_eqb h.params.version 5 older) refl

  pub directories_within : (h.params.version ≡ 5 → ⊥) → (first : List ℕ) (old : TableData)
      → first ≡ first_directory directory → old ≡ h.directories
      → table_cells (directories_from first old) ≤ header_cells (to_version_5 h directory)
  directories_within older first old first_is old_is = rw (first_is, old_is) (omega (arith, cells_made older))

  pub files_within : (h.params.version ≡ 5 → ⊥) → (old : TableData) → old ≡ h.files
      → table_cells (new_files old) ≤ header_cells (to_version_5 h directory)
  files_within older old old_is =
      omega (arith, cells_made older, ap (λ (t : TableData). table_cells (new_files t)) old_is)

  pub few_cells : IsSoundTable h.directories → IsSoundTable h.files
      → header_cells (to_version_5 h directory) ≤ 8 * header_cells h + length (unwrap_or directory []) + 7
  few_cells directories files = by (eqb h.params.version 5) where
    by : (b : Bool)
        → header_cells (cond b h (record {
          params = version_5_params h.params;
          directories = new_directories directory h.directories;
          files = new_files h.files;
        })) ≤ 8 * header_cells h + length (unwrap_or directory []) + 7
    by true = omega arith
    by false = omega (arith, new_directories_few directory h.directories directories, new_files_few h.files files)
