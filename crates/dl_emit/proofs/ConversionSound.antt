-- A header that became one of version 5 is sound, where its tables have fewer than 2^64 bytes, as those of each unit that
-- can be written.
use Rattle.std.proofs.Common.{◌≡◌, ℕ, ◌+◌, ◌^◌, ◌<◌, ◌≤◌, lit<, Bool, true, false, ◌==◌, cond, List, [], ◌∷◌, ◌++◌, length, map}
use Rattle.std.proofs.Common.{flat_map, Option, Some, None, refl, arith, length-append}
use Rattle.std.specs.List.{AllByRecursion, list_any}
use Rattle.std.proofs.lemmas.Bool.{ltb-true, leb-true}
use Rattle.dl_num.specs.declared.fixed.Order.{Order}
use Rattle.dl_num.specs.declared.fixed.Order.TheVariants.{Little}
use Rattle.dl_table.specs.declared.form.Form.{Form}
use Rattle.dl_table.specs.declared.form.Form.TheVariants as form
use Rattle.dl_table.specs.declared.form.Format.{Format}
use Rattle.dl_table.specs.declared.form.Format.TheVariants.{Dwarf32, Dwarf64}
use Rattle.dl_table.specs.declared.table.Pair.{Pair}
use Rattle.dl_table.specs.Built.{entry_fault, fits_form, wrong_value}
use Rattle.dl_table.specs.EntryData.{value_of, with_content}
use Rattle.dl_table.specs.Sound.{IsSoundTable}
use Rattle.dl_table.specs.TableData.{TableData}
use Rattle.dl_table.specs.Value.{Value, text, line_str, str, str_sup, number, block, data16}
use Rattle.dl_table.specs.Written.{entry_bytes, pair_bytes, table_bytes}
use Rattle.dl_num.specs.Shortest.{shortest_uleb}
use Rattle.dl_field.specs.HeaderData.{HeaderData}
use Rattle.dl_head.specs.Sound.{IsSoundHeader}
use Rattle.dl_head.specs.HeaderLayout.{fixed_part}
use Rattle.dl_head.specs.Written.{byte_of, is_within_limit, written_limit}
use Rattle.dl_emit.specs.Conversion.{directory_entry, entries_in, file_entry, file_numbers, file_pairs, first_directory}
use Rattle.dl_emit.specs.Conversion.{first_of, has_number, kept_numbers, new_directories, new_files, number_in}
use Rattle.dl_emit.specs.Conversion.{number_or_zero, number_pair, path_entry, path_in, path_pair, to_version_5, version_5_params}
use Rattle.dl_emit.specs.Parts.{directories_from}
use Rattle.dl_emit.specs.Texts.{IsText}
use Rattle.dl_emit.proofs.ConversionLemmas.{before_zero_text, directory_fits, file_fits, none_some, parts_fit, path_text}
use Rattle.dl_emit.proofs.ConversionLemmas.{right_values}

-- ---- numbers of entries

value_small : (format : Format) (f : Form) (v : Value) → fits_form format f v ≡ true → number_or_zero (Some v) < 2 ^ 64
value_small format form.Data1 (number n) fits = omega (arith, ltb-true n (2 ^ 8) fits)
value_small format form.Data2 (number n) fits = omega (arith, ltb-true n (2 ^ 16) fits)
value_small format form.Data4 (number n) fits = omega (arith, ltb-true n (2 ^ 32) fits)
value_small format form.Data8 (number n) fits = ltb-true n (2 ^ 64) fits
value_small format form.Udata (number n) fits = ltb-true n (2 ^ 64) fits
value_small format f (text w) fits = lit< tt
value_small format f (line_str n) fits = lit< tt
value_small format f (str n) fits = lit< tt
value_small format f (str_sup n) fits = lit< tt
value_small format f (block w) fits = lit< tt
value_small format f (data16 w) fits = lit< tt
value_small format f (number n) fits = absurd cc

number_small : (content : ℕ) (format : Format) (i : ℕ) (pairs : List Pair) (values : List Value)
    → wrong_value format i pairs values ≡ None → number_in (with_content pairs values) content < 2 ^ 64
number_small content format i [] values right = lit< tt
number_small content format i (p ∷ pairs) [] right = lit< tt
number_small content format i (p ∷ pairs) (v ∷ values) right =
    by (fits_form format p.form v) refl right (p.content == content)
    (number_small content format (i + 1) pairs values) where
      by : (fits : Bool) → fits_form format p.form v ≡ fits
          → cond fits (wrong_value format (i + 1) pairs values) (Some i) ≡ None → (first : Bool)
          → (wrong_value format (i + 1) pairs values ≡ None
          → number_in (with_content pairs values) content < 2 ^ 64)
          → number_or_zero (cond first (Some v) (value_of (with_content pairs values) content)) < 2 ^ 64
      by false e right first later = absurd (none_some i right)
      by true e right true later = value_small format p.form v e
      by true e right false later = later right

-- what is known of an entry of a sound table
record IsEntry (entry : List (ℕ × Value)) : Type 0 where
  path : IsText (path_in entry)
  numbers : (content : ℕ) → number_in entry content < 2 ^ 64

are_entries : (t : TableData) (es : List (List Value))
    → AllByRecursion (λ (values : List Value). entry_fault t values ≡ None) es
    → AllByRecursion IsEntry (map (with_content t.pairs) es)
are_entries t [] all = tt
are_entries t (values ∷ es) all =
    let right = right_values t.pairs (wrong_value t.format 0 t.pairs values) all.0 in (
      record {
        path = path_text t.format 0 t.pairs values right;
        numbers = λ content. number_small content t.format 0 t.pairs values right;
      },
      are_entries t es all.1,
    )

-- ---- the new tables

first_text : (directory : Option (List ℕ)) → IsText (first_directory directory)
first_text None = refl
first_text (Some directory) = before_zero_text directory

all_directories : (t : TableData) → t.pairs ≡ path_pair ∷ [] → (es : List (List (ℕ × Value))) → AllByRecursion IsEntry es
    → AllByRecursion (λ (values : List Value). entry_fault t values ≡ None) (map directory_entry es)
all_directories t pairs [] all = tt
all_directories t pairs (e ∷ es) all =
    (directory_fits t (path_in e) pairs all.0.path, all_directories t pairs es all.1)

pub sound_directories : (first : List ℕ) → IsText first → (t : TableData) → IsSoundTable t
    → length (directories_from first t).entries < 2 ^ 64 → IsSoundTable (directories_from first t)
sound_directories first is t sound few =
    let new = directories_from first t in
    record {
      contents = (lit< tt, tt);
      entries = (
        directory_fits new first refl is,
        all_directories new refl (entries_in t) (are_entries t t.entries sound.entries),
      );
      count = few;
    }

one_file : (t : TableData) (times sizes : Bool) → t.pairs ≡ file_pairs (kept_numbers times sizes)
    → (file : List (ℕ × Value)) → IsEntry file → entry_fault t (file_entry (kept_numbers times sizes) file) ≡ None
one_file t times sizes pairs file is =
    by times sizes (file_fits t times sizes (path_in file) (number_in file 2) (number_in file 3) (number_in file 4) pairs
    is.path (is.numbers 2) (is.numbers 3) (is.numbers 4)) where
      by : (m n : Bool) → entry_fault t (text (path_in file) ∷ number (number_in file 2)
          ∷ cond m (number (number_in file 3) ∷ []) [] ++ cond n (number (number_in file 4) ∷ []) []) ≡ None
          → entry_fault t (file_entry (kept_numbers m n) file) ≡ None
      by true true e = e
      by true false e = e
      by false true e = e
      by false false e = e

module _ (t : TableData) (times sizes : Bool) (pairs : t.pairs ≡ file_pairs (kept_numbers times sizes)) where
  all_files : (es : List (List (ℕ × Value))) → AllByRecursion IsEntry es
      → AllByRecursion (λ (values : List Value). entry_fault t values ≡ None)
      (map (file_entry (kept_numbers times sizes)) es)
  all_files [] all = tt
  all_files (e ∷ es) all = (one_file t times sizes pairs e all.0, all_files es all.1)

  all_with_first : (es : List (List (ℕ × Value))) → AllByRecursion IsEntry es
      → AllByRecursion (λ (values : List Value). entry_fault t values ≡ None)
      (map (file_entry (kept_numbers times sizes)) (first_of es ++ es))
  all_with_first [] all = tt
  all_with_first (e ∷ es) all = (one_file t times sizes pairs e all.0, all_files (e ∷ es) all)

file_contents : (times sizes : Bool)
    → AllByRecursion (λ (p : Pair). p.content < 2 ^ 64) (file_pairs (kept_numbers times sizes))
file_contents true true = (lit< tt, (lit< tt, (lit< tt, (lit< tt, tt))))
file_contents true false = (lit< tt, (lit< tt, (lit< tt, tt)))
file_contents false true = (lit< tt, (lit< tt, (lit< tt, tt)))
file_contents false false = (lit< tt, (lit< tt, tt))

pub sound_files : (t : TableData) → IsSoundTable t → length (new_files t).entries < 2 ^ 64 → IsSoundTable (new_files t)
sound_files t sound few =
    let times = list_any (has_number 3) (entries_in t) in
    let sizes = list_any (has_number 4) (entries_in t) in
    record {
      contents = file_contents times sizes;
      entries = all_with_first (new_files t) times sizes refl (entries_in t) (are_entries t t.entries sound.entries);
      count = few;
    }

-- ---- there are no more entries than bytes

map_some : {A B : Type 0} (f : B → List ℕ) (g : A → B) (xs : List A) → ((x : A) → 1 ≤ length (f (g x)))
    → length (map g xs) ≤ length (flat_map f (map g xs))
map_some f g [] some = omega arith
map_some f g (x ∷ xs) some =
    omega (arith, some x, length-append (f (g x)) (flat_map f (map g xs)), map_some f g xs some)

path_some : (order : Order) (format : Format) (pairs : List Pair) (w : List ℕ) (values : List Value)
    → 1 ≤ length (entry_bytes order format (path_pair ∷ pairs) (text w ∷ values))
path_some order format pairs w values =
    omega (arith, length-append (w ++ 0 ∷ []) (entry_bytes order format pairs values), length-append w (0 ∷ []))

last_part : (n b : ℕ) (pairs count entries : List ℕ) → n ≤ length entries
    → n ≤ length (b ∷ pairs ++ count ++ entries)
last_part n b pairs count entries some =
    omega (arith, some, length-append (pairs ++ count) entries, length-append pairs count)

table_some : (order : Order) (t : TableData)
    → length t.entries ≤ length (flat_map (λ values. entry_bytes order t.format t.pairs values) t.entries)
    → length t.entries ≤ length (table_bytes order t)
table_some order t some =
    last_part (length t.entries) (length t.pairs) (flat_map pair_bytes t.pairs) (shortest_uleb (length t.entries))
    (flat_map (λ values. entry_bytes order t.format t.pairs values) t.entries) some

limit_near : (format : Format) → written_limit format < 2 ^ 64
limit_near Dwarf32 = lit< tt
limit_near Dwarf64 = lit< tt

last_parts : (limit part n : ℕ) (fields directories files : List ℕ)
    → part + length (fields ++ directories ++ files) + n ≤ limit → limit < 2 ^ 64
    → length directories + length files < 2 ^ 64
last_parts limit part n fields directories files near small =
    omega (arith, near, small, length-append (fields ++ directories) files, length-append fields directories)

-- where a unit under a header can be written, its tables have fewer bytes
pub tables_near : (h : HeaderData) (n : ℕ) → is_within_limit h n ≡ true
    → length (table_bytes Little h.directories) + length (table_bytes Little h.files) < 2 ^ 64
tables_near h n within =
    let p = h.params in
    last_parts (written_limit p.format) (fixed_part p.format 5) n
    (p.minimum_instruction_length ∷ p.maximum_operations_per_instruction ∷ p.default_is_stmt ∷ byte_of p.line_base
    ∷ p.line_range ∷ p.opcode_base ∷ p.lengths.items) (table_bytes Little h.directories) (table_bytes Little h.files)
    (leb-true _ _ within) (limit_near p.format)

-- ---- the header

abbrev pub AreNear : HeaderData → Type 0
AreNear h = length (table_bytes Little h.directories) + length (table_bytes Little h.files) < 2 ^ 64

pub version_5_sound : (h : HeaderData) (directory : Option (List ℕ)) → IsSoundHeader h
    → AreNear (to_version_5 h directory) → IsSoundHeader (to_version_5 h directory)
version_5_sound h directory sound near = by (h.params.version == 5) near where
  new : HeaderData
  new = record {
    params = version_5_params h.params;
    directories = new_directories directory h.directories;
    files = new_files h.files;
  }

  by : (b : Bool) → AreNear (cond b h new) → IsSoundHeader (cond b h new)
  by true few = sound
  by false few =
      let numbers = file_numbers (entries_in h.files) in
      let directories = table_some Little new.directories
      (omega (
        arith,
        path_some Little h.directories.format [] (first_directory directory) [],
        length-append (entry_bytes Little h.directories.format (path_pair ∷ []) (path_entry (first_directory directory)))
            (flat_map (λ values. entry_bytes Little h.directories.format (path_pair ∷ []) values)
            (map directory_entry (entries_in h.directories))),
        map_some (λ values. entry_bytes Little h.directories.format (path_pair ∷ []) values) directory_entry
            (entries_in h.directories) (λ e. path_some Little h.directories.format [] (path_in e) []),
      )) in
      let files = table_some Little new.files
      (map_some (λ values. entry_bytes Little h.files.format (file_pairs numbers) values) (file_entry numbers)
      (first_of (entries_in h.files) ++ entries_in h.files)
      (λ e. path_some Little h.files.format (map number_pair numbers) (path_in e)
      (map (λ content. number (number_in e content)) numbers))) in
      record {
        params = parts_fit h new.params new.directories new.files sound refl refl refl;
        maximum_operations = sound.maximum_operations;
        line_base = sound.line_base;
        directories = sound_directories (first_directory directory) (first_text directory) h.directories sound.directories
            (omega (arith, few, directories));
        files = sound_files h.files sound.files (omega (arith, few, files));
      }
