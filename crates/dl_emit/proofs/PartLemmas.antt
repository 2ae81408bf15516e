-- The values of a table that is made, entry by entry, and the table that they come to.
use Rattle.std.proofs.Common.{◌≡◌, ℕ, zero, suc, ◌+◌, ◌*◌, ◌/◌, ◌<◌, ◌≤◌, List, [], ◌∷◌, ◌++◌, length, map, flat_map, take, drop}
use Rattle.std.proofs.Common.{get_or, slice_get, Some, refl, sym, ap, ◌∙◌, arith, append_assoc, append-nil, length-append}
use Rattle.std.specs.List.{AllByRecursion, sum_by}
use Rattle.std.proofs.Math.Nat.{mul-div_cancel}
use Rattle.std.proofs.lemmas.Grind.{flat_map-append}
use Rattle.std.proofs.lemmas.List.{drop_all, drop-append-le, length-map, map-append, take-append-drop, take-append-le, take_all}
use Rattle.std.proofs.lemmas.List.{take_more}
use Rattle.std.proofs.lemmas.List.Sums.{sum_by-append, sum_by-cons}
use Rattle.dl_table.specs.declared.form.Format.{Format}
use Rattle.dl_table.specs.declared.table.Pair.{Pair}
use Rattle.dl_table.specs.declared.table.held.StoredValue.{StoredValue}
use Rattle.dl_table.specs.declared.table.held.StoredValue.TheVariants as held
use Rattle.dl_table.specs.Held.{IsWhole, rows, table_of, value_held, values_end}
use Rattle.dl_table.specs.TableCells.{table_cells, value_cells}
use Rattle.dl_table.specs.TableData.{TableData}
use Rattle.dl_table.specs.Value.{Value, text, number}
use Rattle.dl_table.proofs.HeldLemmas.{values_end-push, values_held-push, whole_rows}
use Rattle.dl_table.proofs.SoundLemmas.{few_entries}
use Rattle.dl_emit.specs.declared.new_tables.Parts.{Parts}
use Rattle.dl_emit.specs.Conversion.{directory_entry, entries_in, file_entry, file_numbers, file_pairs, first_of}
use Rattle.dl_emit.specs.Conversion.{new_files, number_in, number_pair, path_entry, path_pair}
use Rattle.dl_emit.specs.Parts.{cells_of, directories_from, held_in, IsExact}
use Rattle.dl_emit.proofs.ConversionLemmas.{take_one}

-- ---- values that are added

abbrev pub entries_cells : List (List Value) → ℕ
entries_cells entries = sum_by (λ entry. sum_by value_cells entry) entries

-- fewer values have no more cells
pub cells_front : (a b c : List Value) → cells_of (a ++ b) ≤ cells_of (a ++ (b ++ c))
cells_front a b c =
    omega (arith, sum_by-append value_cells a b, sum_by-append value_cells a (b ++ c), sum_by-append value_cells b c)

-- the bytes at the end of a pool
at_end : (pool w : List ℕ) → take (length w) (drop (length pool) (pool ++ w)) ≡ w
at_end pool w =
    rw (drop-append-le (length pool) pool w (omega arith)) (by pool) where
      by : (pool : List ℕ) → take (length w) (drop (length pool) pool ++ w) ≡ w
      by [] = take_all (length w) w (omega arith)
      by (b ∷ pool) = by pool

module _ (old new : Parts) (exact : IsExact old) where
  -- a text and its bytes
  module _ (w : List ℕ) (pool : new.pool.items ≡ old.pool.items ++ w)
      (values : new.values.items ≡ old.values.items ++ held.Text (record { start = length old.pool.items; len = length w })
      ∷ []) where
    pub text_held : held_in new ≡ held_in old ++ text w ∷ []
    text_held =
        rw (pool, values) (values_held-push old.pool.items w old.values.items
        (held.Text (record { start = length old.pool.items; len = length w })) (text w) exact.within
        (ap text (at_end old.pool.items w)))

    pub text_exact : IsExact new
    text_exact = record {
      within = omega (
        arith,
        exact.within,
        ap values_end values,
        values_end-push old.values.items (held.Text (record { start = length old.pool.items; len = length w })),
        ap length pool,
        length-append old.pool.items w,
      );
      few = omega (
        arith,
        exact.few,
        ap length values,
        length-append old.values.items (held.Text (record { start = length old.pool.items; len = length w }) ∷ []),
        ap length pool,
        length-append old.pool.items w,
        ap cells_of text_held,
        sum_by-append value_cells (held_in old) (text w ∷ []),
        sum_by-cons value_cells (text w) [],
      );
    }

  module _ (n : ℕ) (pool : new.pool ≡ old.pool) (values : new.values.items ≡ old.values.items ++ held.Number n ∷ []) where
    pub number_held : held_in new ≡ held_in old ++ number n ∷ []
    number_held =
        let same : held_in new ≡ map (value_held (old.pool.items ++ [])) (old.values.items ++ held.Number n ∷ []) =
        rw (pool, values, append-nil old.pool.items) refl in
        same ∙ values_held-push old.pool.items [] old.values.items (held.Number n) (number n) exact.within refl

    pub number_exact : IsExact new
    number_exact = record {
      within = omega (
        arith,
        exact.within,
        ap values_end values,
        values_end-push old.values.items (held.Number n),
        ap (λ p. length p.items) pool,
      );
      few = omega (
        arith,
        exact.few,
        ap length values,
        length-append old.values.items (held.Number n ∷ []),
        ap (λ p. length p.items) pool,
        ap cells_of number_held,
        sum_by-append value_cells (held_in old) (number n ∷ []),
        sum_by-cons value_cells (number n) [],
      );
    }

  -- what they want memory for
  pub text_wants : (w : List ℕ) → length old.values.items + length old.pool.items + length w + 1
      ≤ cells_of (held_in old ++ text w ∷ [])
  text_wants w =
      omega (arith, exact.few, sum_by-append value_cells (held_in old) (text w ∷ []), sum_by-cons value_cells (text w) [])

  pub number_wants : (n : ℕ) → length old.values.items + 1 ≤ cells_of (held_in old ++ number n ∷ [])
  number_wants n =
      omega (arith, exact.few, sum_by-append value_cells (held_in old) (number n ∷ []), sum_by-cons value_cells (number n) [])

-- ---- one entry after the other

module _ {A B : Type 0} (f : A → List B) (before : List B) (xs : List A) (i : ℕ) (x : A)
    (here : slice_get xs i ≡ Some x) where
  pub one_more : (now next : List B) → now ≡ before ++ flat_map f (take i xs) → next ≡ now ++ f x
      → next ≡ before ++ flat_map f (take (i + 1) xs)
  one_more now next so step =
      rw (step, so, take_one xs i x here, flat_map-append f (take i xs) (x ∷ []), append_assoc, append-nil (f x)) refl

flat_take : {A : Type 0} (f : A → List Value) (k : ℕ) (xs : List A)
    → cells_of (flat_map f (take k xs)) ≤ cells_of (flat_map f xs)
flat_take f zero xs = omega arith
flat_take f (suc k) [] = omega arith
flat_take f (suc k) (x ∷ xs) = omega (
  arith,
  flat_take f k xs,
  sum_by-append value_cells (f x) (flat_map f (take k xs)),
  sum_by-append value_cells (f x) (flat_map f xs),
)

-- one of them is wanted, after those before it
pub wants_one : {A : Type 0} (f : A → List Value) (before now : List Value) (xs : List A) (i : ℕ) (x : A)
    → slice_get xs i ≡ Some x → now ≡ before ++ flat_map f (take i xs)
    → cells_of (now ++ f x) ≤ cells_of (before ++ flat_map f xs)
wants_one f before now xs i x here so =
    let next = ap cells_of (one_more f before xs i x here now (now ++ f x) so refl) in
    omega (
      arith,
      next,
      sum_by-append value_cells before (flat_map f (take (i + 1) xs)),
      sum_by-append value_cells before (flat_map f xs),
      flat_take f (i + 1) xs,
    )

-- a number of a file is wanted, after those before it
pub wants_number : (before now : List Value) (path : Value) (f : ℕ → Value) (numbers : List ℕ) (i d : ℕ)
    → i < length numbers → now ≡ before ++ path ∷ map f (take i numbers)
    → cells_of (now ++ f (get_or numbers i d) ∷ []) ≤ cells_of (before ++ path ∷ map f numbers)
wants_number before now path f numbers i d lt so =
    let front = path ∷ map f (take i numbers) in
    let one = f (get_or numbers i d) ∷ [] in
    let more : map f (take (i + 1) numbers) ≡ map f (take i numbers) ++ one =
    ap (map f) (take_more numbers i d lt) ∙ map-append f (take i numbers) (get_or numbers i d ∷ []) in
    let all : map f numbers ≡ map f (take (i + 1) numbers) ++ map f (drop (i + 1) numbers) =
    ap (map f) (sym (take-append-drop (i + 1) numbers)) ∙ map-append f (take (i + 1) numbers) (drop (i + 1) numbers) in
    let whole : path ∷ map f numbers ≡ front ++ (one ++ map f (drop (i + 1) numbers)) =
    ap (λ (l : List Value). path ∷ l) (all ∙ ap (λ (l : List Value). l ++ map f (drop (i + 1) numbers)) more
    ∙ append_assoc (map f (take i numbers)) one (map f (drop (i + 1) numbers))) in
    rw (so, append_assoc before front one, whole) (
    let e = append_assoc front one (map f (drop (i + 1) numbers)) in
    rw (← e) (cells_front before (front ++ one) (map f (drop (i + 1) numbers)))
    )

-- ---- the table

pub flat_cells : {A : Type 0} (f : A → List Value) (xs : List A) → cells_of (flat_map f xs) ≡ entries_cells (map f xs)
flat_cells f [] = refl
flat_cells f (x ∷ xs) = omega (
  arith,
  flat_cells f xs,
  sum_by-append value_cells (f x) (flat_map f xs),
  sum_by-cons (λ entry. sum_by value_cells entry) (f x) (map f xs),
)

module _ (width : ℕ) where
  abbrev pub AreWide : List (List Value) → Type 0
  AreWide es = AllByRecursion (λ e. length e ≡ width) es

  pub each_wide : {X : Type 0} (f : X → List Value) (xs : List X) → ((x : X) → length (f x) ≡ width) → AreWide (map f xs)
  each_wide f [] wide = tt
  each_wide f (x ∷ xs) wide = (wide x, each_wide f xs wide)

  length_joined : (es : List (List Value)) → AreWide es → length (flat_map (λ e. e) es) ≡ length es * width
  length_joined [] wide = omega arith
  length_joined (e ∷ es) wide =
      omega (arith, wide.0, length_joined es wide.1, length-append e (flat_map (λ e. e) es))

  rows_of : (es : List (List Value)) → AreWide es → rows (length es) width (flat_map (λ e. e) es) ≡ es
  rows_of [] wide = refl
  rows_of (e ∷ es) wide =
      let whole : take width e ≡ e = take_all width e (omega (arith, wide.0)) in
      let none : drop width e ≡ [] = drop_all width e (omega (arith, wide.0)) in
      rw (
        take-append-le width e (flat_map (λ e. e) es) (omega (arith, wide.0)),
        drop-append-le width e (flat_map (λ e. e) es) (omega (arith, wide.0)),
        whole,
        none,
        rows_of es wide.1,
      ) refl

pub joined_map : {X : Type 0} (f : X → List Value) (xs : List X) → flat_map (λ e. e) (map f xs) ≡ flat_map f xs
joined_map f [] = refl
joined_map f (x ∷ xs) = ap (λ (l : List Value). f x ++ l) (joined_map f xs)

module _ (format : Format) (pairs : List Pair) (es : List (List Value)) (values : List StoredValue) (pool : List ℕ)
    (some : 0 < length pairs) (wide : AreWide (length pairs) es)
    (are : map (value_held pool) values ≡ flat_map (λ e. e) es) where
  counted : length values ≡ length es * length pairs
  counted = omega (arith, length-map values (value_held pool), ap length are, length_joined (length pairs) es wide)

  pub parts_whole : IsWhole (length values) (length pairs)
  parts_whole = rw counted (whole_rows (length es) (length pairs))

  pub parts_table : table_of format pairs values pool ≡ record { format = format; pairs = pairs; entries = es }
  parts_table =
      let count : length values / length pairs ≡ length es = rw counted (mul-div_cancel (length es) some) in
      rw (count, are, rows_of (length pairs) es wide) refl

  pub no_more_entries : length es ≤ length values
  no_more_entries =
      omega (arith, ap (λ (t : TableData). length t.entries) parts_table, few_entries format pairs values pool)

-- ---- the new tables

module _ (first : List ℕ) (old : TableData) where
  abbrev paths : List Value
  paths = flat_map directory_entry (entries_in old)

  pub directories_wide : AreWide 1 (path_entry first ∷ map directory_entry (entries_in old))
  directories_wide = (refl, each_wide 1 directory_entry (entries_in old) (λ x. refl))

  pub directories_joined : flat_map (λ e. e) (path_entry first ∷ map directory_entry (entries_in old))
      ≡ path_entry first ++ paths
  directories_joined = ap (λ (l : List Value). path_entry first ++ l) (joined_map directory_entry (entries_in old))

  pub directories_cells : table_cells (directories_from first old) ≡ 1 + cells_of (path_entry first ++ paths)
  directories_cells = omega (
    arith,
    sum_by-cons (λ entry. sum_by value_cells entry) (path_entry first) (map directory_entry (entries_in old)),
    sum_by-append value_cells (path_entry first) paths,
    flat_cells directory_entry (entries_in old),
  )

  pub directories_first : (held : List Value) → held ≡ []
      → cells_of (held ++ text first ∷ []) ≤ table_cells (directories_from first old)
  directories_first held none =
      rw none (omega (arith, directories_cells, sum_by-append value_cells (path_entry first) paths))

  pub directories_rest : (held : List Value) → held ≡ path_entry first
      → cells_of (held ++ paths) ≤ table_cells (directories_from first old)
  directories_rest held is = rw is (omega (arith, directories_cells))

  -- values with these texts are the table
  pub directories_made : (format : Format) (pairs : List Pair) (values : List StoredValue) (pool : List ℕ)
      → format ≡ old.format → pairs ≡ path_pair ∷ [] → map (value_held pool) values ≡ path_entry first ++ paths
      → (table_of format pairs values pool ≡ directories_from first old)
      × (length (directories_from first old).entries ≤ length values)
  directories_made format pairs values pool format_is pairs_are held =
      let es = path_entry first ∷ map directory_entry (entries_in old) in
      let are : map (value_held pool) values ≡ flat_map (λ e. e) es = held ∙ sym directories_joined in
      rw (format_is, pairs_are) (
        parts_table old.format (path_pair ∷ []) es values pool (omega arith) directories_wide are,
        no_more_entries old.format (path_pair ∷ []) es values pool (omega arith) directories_wide are,
      )

module _ (old : TableData) where
  abbrev its_numbers : List ℕ
  its_numbers = file_numbers (entries_in old)

  abbrev lines : List (List (ℕ × Value)) → List Value
  lines files = flat_map (file_entry its_numbers) files

  pub files_wide : AreWide (length (file_pairs its_numbers))
      (map (file_entry its_numbers) (first_of (entries_in old) ++ entries_in old))
  files_wide = each_wide (length (file_pairs its_numbers)) (file_entry its_numbers)
      (first_of (entries_in old) ++ entries_in old) (λ x. omega (
        arith,
        length-map its_numbers (λ content. number (number_in x content)),
        length-map its_numbers number_pair,
      ))

  pub files_joined : flat_map (λ e. e) (map (file_entry its_numbers) (first_of (entries_in old) ++ entries_in old))
      ≡ lines (first_of (entries_in old)) ++ lines (entries_in old)
  files_joined =
      joined_map (file_entry its_numbers) (first_of (entries_in old) ++ entries_in old)
      ∙ flat_map-append (file_entry its_numbers) (first_of (entries_in old)) (entries_in old)

  pub files_cells : table_cells (new_files old)
      ≡ length (file_pairs its_numbers) + cells_of (lines (first_of (entries_in old)) ++ lines (entries_in old))
  files_cells = omega (
    arith,
    flat_cells (file_entry its_numbers) (first_of (entries_in old) ++ entries_in old),
    ap cells_of (flat_map-append (file_entry its_numbers) (first_of (entries_in old)) (entries_in old)),
  )

  pub files_first : (held : List Value) → held ≡ []
      → cells_of (held ++ lines (first_of (entries_in old))) ≤ table_cells (new_files old)
  files_first held none =
      rw none (omega (
        arith,
        files_cells,
        sum_by-append value_cells (lines (first_of (entries_in old))) (lines (entries_in old)),
      ))

  pub files_rest : (held : List Value) → held ≡ lines (first_of (entries_in old))
      → cells_of (held ++ lines (entries_in old)) ≤ table_cells (new_files old)
  files_rest held is = rw is (omega (arith, files_cells))

  -- values with these texts and numbers are the table
  pub files_made : (format : Format) (pairs : List Pair) (values : List StoredValue) (pool : List ℕ)
      → format ≡ old.format → pairs ≡ file_pairs its_numbers
      → map (value_held pool) values ≡ lines (first_of (entries_in old)) ++ lines (entries_in old)
      → (table_of format pairs values pool ≡ new_files old) × (length (new_files old).entries ≤ length values)
      × IsWhole (length values) (length pairs)
  files_made format pairs values pool format_is pairs_are held =
      let es = map (file_entry its_numbers) (first_of (entries_in old) ++ entries_in old) in
      let are : map (value_held pool) values ≡ flat_map (λ e. e) es = held ∙ sym files_joined in
      rw (format_is, pairs_are) (
        parts_table old.format (file_pairs its_numbers) es values pool (omega arith) files_wide are,
        no_more_entries old.format (file_pairs its_numbers) es values pool (omega arith) files_wide are,
        parts_whole old.format (file_pairs its_numbers) es values pool (omega arith) files_wide are,
      )
