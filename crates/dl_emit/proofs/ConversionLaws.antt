-- Numbers of directories and files mean the same in version 5.
use Rattle.std.proofs.Common.{◌≡◌, ℕ, zero, suc, ◌+◌, ◌-◌, ◌≤◌, Bool, true, false, cond, not, eqb, List, [], ◌∷◌, ◌++◌, ◌||◌, map}
use Rattle.std.proofs.Common.{slice_get, Option, Some, None, option_map, refl, sym, ap, ap₂, subst, ◌∙◌, arith}
use Rattle.std.specs.List.{list_any}
use Rattle.std.proofs.lemmas.Bool.{eqb-true, le-ltb, ne_eqb}
use Rattle.dl_num.proofs.LebFrontLemmas.{true_false}
use Rattle.std.proofs.lemmas.Option.{slice_get-map}
use Rattle.dl_table.specs.declared.form.Format.{Format}
use Rattle.dl_table.specs.declared.form.Form.TheVariants as form
use Rattle.dl_table.specs.declared.table.Pair.{Pair}
use Rattle.dl_table.specs.Built.{entry_fault, fits_form, wrong_value}
use Rattle.dl_table.specs.EntryData.{with_content}
use Rattle.dl_table.specs.Sound.{IsSoundTable}
use Rattle.dl_table.specs.TableData.{TableData}
use Rattle.dl_table.specs.Value.{Value, text, line_str, str, str_sup, number, block, data16}
use Rattle.dl_field.specs.HeaderData.{HeaderData}
use Rattle.dl_field.specs.Layout.{listed_directory, listed_file}
use Rattle.dl_head.specs.Numbers.{directory_numbered, entry_numbered, file_numbered, first_number}
use Rattle.dl_emit.specs.Conversion.{directory_entry, entries_in, file_entry, file_numbers, file_pairs, first_of}
use Rattle.dl_emit.specs.Conversion.{has_number, kept_numbers, new_directories, new_files, number_in}
use Rattle.dl_emit.specs.Conversion.{number_pair, path_pair}
use Rattle.dl_emit.specs.Conversion.{to_version_5, version_5_params}
use Rattle.dl_emit.specs.ConversionLaws.{IsOlderHeader, MeansTheSame, NumbersMeanTheSame, said_of}
use Rattle.dl_emit.proofs.ConversionLemmas.{at_place, none_some, right_values, some_same}

-- ---- the entries of a table of versions 2 to 4

string_value : (format : Format) (v : Value) → fits_form format form.String v ≡ true → (w : List ℕ) × (v ≡ text w)
string_value format (text w) fits = (w, refl)
string_value format (line_str n) fits = absurd cc
string_value format (str n) fits = absurd cc
string_value format (str_sup n) fits = absurd cc
string_value format (number n) fits = absurd cc
string_value format (block w) fits = absurd cc
string_value format (data16 w) fits = absurd cc

udata_value : (format : Format) (v : Value) → fits_form format form.Udata v ≡ true → (n : ℕ) × (v ≡ number n)
udata_value format (number n) fits = (n, refl)
udata_value format (text w) fits = absurd cc
udata_value format (line_str n) fits = absurd cc
udata_value format (str n) fits = absurd cc
udata_value format (str_sup n) fits = absurd cc
udata_value format (block w) fits = absurd cc
udata_value format (data16 w) fits = absurd cc

-- values against pairs, one pair at a time
one_value : (format : Format) (i : ℕ) (p : Pair) (pairs : List Pair) (values : List Value)
    → wrong_value format i (p ∷ pairs) values ≡ None
    → (v : Value) × (rest : List Value) × (values ≡ v ∷ rest) × (fits_form format p.form v ≡ true)
    × (wrong_value format (i + 1) pairs rest ≡ None)
one_value format i p pairs [] right = absurd (none_some i right)
one_value format i p pairs (v ∷ rest) right = by (fits_form format p.form v) refl right where
  by : (b : Bool) → fits_form format p.form v ≡ b → cond b (wrong_value format (i + 1) pairs rest) (Some i) ≡ None
      → (v2 : Value) × (rest2 : List Value) × (v ∷ rest ≡ v2 ∷ rest2) × (fits_form format p.form v2 ≡ true)
      × (wrong_value format (i + 1) pairs rest2 ≡ None)
  by true e right = (v, rest, refl, e, right)
  by false e right = absurd (none_some i right)

no_value : (format : Format) (i : ℕ) (values : List Value) → wrong_value format i [] values ≡ None → values ≡ []
no_value format i [] right = refl
no_value format i (v ∷ values) right = absurd (none_some i right)

listed_directory_is : (format : Format) (values : List Value) → wrong_value format 0 listed_directory values ≡ None
    → (w : List ℕ) × (values ≡ text w ∷ [])
listed_directory_is format values right =
    let a = one_value format 0 path_pair [] values right in
    let w = string_value format a.0 a.3 in
    (w.0, a.2 ∙ ap₂ (λ (v : Value) (vs : List Value). v ∷ vs) w.1 (no_value format 1 a.1 a.4))

one_after : {A : Type 0} {x y : A} {xs ys : List A} → x ≡ y → xs ≡ ys → x ∷ xs ≡ y ∷ ys
one_after {A} e f = ap₂ (λ (z : A) (zs : List A). z ∷ zs) e f

listed_file_is : (format : Format) (values : List Value) → wrong_value format 0 listed_file values ≡ None
    → (w : List ℕ) × (d : ℕ) × (m : ℕ) × (n : ℕ) × (values ≡ text w ∷ number d ∷ number m ∷ number n ∷ [])
listed_file_is format values right =
    let time = number_pair 3 in
    let size = number_pair 4 in
    let a = one_value format 0 path_pair (number_pair 2 ∷ time ∷ size ∷ []) values right in
    let b = one_value format 1 (number_pair 2) (time ∷ size ∷ []) a.1 a.4 in
    let c = one_value format 2 time (size ∷ []) b.1 b.4 in
    let e = one_value format 3 size [] c.1 c.4 in
    let w = string_value format a.0 a.3 in
    let d = udata_value format b.0 b.3 in
    let m = udata_value format c.0 c.3 in
    let n = udata_value format e.0 e.3 in (
      w.0,
      d.0,
      m.0,
      n.0,
      a.2 ∙ one_after w.1 (b.2 ∙ one_after d.1 (c.2 ∙ one_after m.1 (e.2 ∙ one_after n.1 (no_value format 4 e.1 e.4)))),
    )

-- an entry of a table, by its values
entry_is : (t : TableData) (m : ℕ) (entry : List (ℕ × Value)) → IsSoundTable t
    → slice_get (entries_in t) m ≡ Some entry
    → (values : List Value) × (entry ≡ with_content t.pairs values)
    × (wrong_value t.format 0 t.pairs values ≡ None)
entry_is t m entry sound here = by (slice_get t.entries m) refl where
  mapped : (o : Option (List Value)) → slice_get t.entries m ≡ o
      → Some entry ≡ option_map (with_content t.pairs) o
  mapped o is =
      sym here ∙ slice_get-map (with_content t.pairs) t.entries m ∙ ap (option_map (with_content t.pairs)) is

  by : (o : Option (List Value)) → slice_get t.entries m ≡ o
      → (values : List Value) × (entry ≡ with_content t.pairs values) × (wrong_value t.format 0 t.pairs values ≡ None)
  by None is = absurd (none_some entry (mapped None is))
  by (Some values) is =
      let right = at_place (λ (vs : List Value). entry_fault t vs ≡ None) t.entries m values sound.entries is in (
        values,
        some_same entry (with_content t.pairs values) (mapped (Some values) is),
        right_values t.pairs (wrong_value t.format 0 t.pairs values) right,
      )

-- what becomes of entries that are there, or not
option_same : {A B : Type 0} (f g : A → B) (o : Option A) → ((x : A) → o ≡ Some x → f x ≡ g x)
    → option_map f o ≡ option_map g o
option_same f g None same = refl
option_same f g (Some x) same = ap (λ y. Some y) (same x refl)

option_map-map : {A B C : Type 0} (f : B → C) (g : A → B) (o : Option A)
    → option_map f (option_map g o) ≡ option_map (λ x. f (g x)) o
option_map-map f g None = refl
option_map-map f g (Some x) = refl

-- ---- numbers that aren't kept are 0

not_zero : (n : ℕ) → not (eqb n 0) ≡ false → n ≡ 0
not_zero n e = by (eqb n 0) refl e where
  by : (b : Bool) → eqb n 0 ≡ b → not b ≡ false → n ≡ 0
  by true is e = eqb-true n 0 is
  by false is e = absurd (true_false refl e)

none_in : (content : ℕ) (f : List (ℕ × Value)) (files : List (List (ℕ × Value)))
    → list_any (has_number content) (f ∷ files) ≡ false
    → (has_number content f ≡ false) × (list_any (has_number content) files ≡ false)
none_in content f files none = by (has_number content f) (list_any (has_number content) files) none where
  by : (a b : Bool) → (a || b) ≡ false → (a ≡ false) × (b ≡ false)
  by false b e = (refl, e)
  by true b e = absurd cc

none_has : (content : ℕ) (files : List (List (ℕ × Value))) (m : ℕ) (file : List (ℕ × Value))
    → list_any (has_number content) files ≡ false → slice_get files m ≡ Some file → number_in file content ≡ 0
none_has content [] m file none here = absurd (none_some file (sym here))
none_has content (f ∷ files) zero file none here =
    subst (λ (g : List (ℕ × Value)). number_in g content ≡ 0) (some_same f file here)
    (not_zero (number_in f content) (none_in content f files none).0)
none_has content (f ∷ files) (suc m) file none here =
    none_has content files m file (none_in content f files none).1 here

-- an entry as versions 2 to 4 have it
abbrev listed_entry : List ℕ → (directory time size : ℕ) → List (ℕ × Value)
listed_entry w d m n = (1, text w) ∷ (2, number d) ∷ (3, number m) ∷ (4, number n) ∷ []

-- the entry that becomes of a file
abbrev new_file : List ℕ → List (ℕ × Value) → List (ℕ × Value)
new_file numbers file = with_content (file_pairs numbers) (file_entry numbers file)

said_kept : (times sizes : Bool) (w : List ℕ) (d m n : ℕ) → (times ≡ false → m ≡ 0) → (sizes ≡ false → n ≡ 0)
    → said_of (new_file (kept_numbers times sizes) (listed_entry w d m n)) ≡ said_of (listed_entry w d m n)
said_kept true true w d m n no_times no_sizes = refl
said_kept true false w d m n no_times no_sizes = rw (no_sizes refl) refl
said_kept false true w d m n no_times no_sizes = rw (no_times refl) refl
said_kept false false w d m n no_times no_sizes = rw (no_times refl, no_sizes refl) refl

said_again : (files : List (List (ℕ × Value))) (k : ℕ) (file : List (ℕ × Value)) → slice_get files k ≡ Some file
    → (w : List ℕ) (d m n : ℕ) → file ≡ listed_entry w d m n
    → said_of (new_file (file_numbers files) file) ≡ said_of file
said_again files k file here w d m n is =
    let time : list_any (has_number 3) files ≡ false → m ≡ 0 =
    (λ none. sym (ap (λ (f : List (ℕ × Value)). number_in f 3) is) ∙ none_has 3 files k file none here) in
    let size : list_any (has_number 4) files ≡ false → n ≡ 0 =
    (λ none. sym (ap (λ (f : List (ℕ × Value)). number_in f 4) is) ∙ none_has 4 files k file none here) in
    subst (λ (f : List (ℕ × Value)). said_of (new_file (file_numbers files) f) ≡ said_of f) (sym is)
    (said_kept (list_any (has_number 3) files) (list_any (has_number 4) files) w d m n time size)

-- ---- numbers

first_again : {A B : Type 0} (g : A → B) (files : List A) (m : ℕ)
    → slice_get (map g (first_of files ++ files)) (suc m) ≡ option_map g (slice_get files m)
first_again g [] m = refl
first_again g (f ∷ files) m = slice_get-map g (f ∷ files) m

option_map-same : {A : Type 0} (o : Option A) → option_map (λ x. x) o ≡ o
option_map-same None = refl
option_map-same (Some x) = refl

module _ (h : HeaderData) (directory : Option (List ℕ)) (o : IsOlderHeader h) where
  abbrev new : HeaderData
  new = record {
    params = version_5_params h.params;
    directories = new_directories directory h.directories;
    files = new_files h.files;
  }

  is_new : to_version_5 h directory ≡ new
  is_new = rw (ne_eqb h.params.version 5 o.older) refl

  old_numbered : (t : TableData) (m : ℕ)
      → entry_numbered (first_number h.params) t (suc m) ≡ slice_get (entries_in t) m
  old_numbered t m =
      let place : suc m - 1 ≡ m = omega arith in
      rw (ne_eqb h.params.version 5 o.older, le-ltb (suc m) 1 (omega arith), place)
      (sym (slice_get-map (with_content t.pairs) t.entries m))

  new_numbered : (t : TableData) (n : ℕ)
      → entry_numbered 0 t n ≡ option_map (with_content t.pairs) (slice_get t.entries n)
  new_numbered t n =
      let place : n - 0 ≡ n = omega arith in rw (le-ltb n 0 (omega arith), place) refl

  same_directory : (entry : List (ℕ × Value)) (m : ℕ) → slice_get (entries_in h.directories) m ≡ Some entry
      → with_content (path_pair ∷ []) (directory_entry entry) ≡ entry
  same_directory entry m here =
      let e = entry_is h.directories m entry o.sound.directories here in
      let pairs = ap (λ (ps : List Pair). wrong_value h.directories.format 0 ps e.0) o.directories in
      let l = listed_directory_is h.directories.format e.0 (sym pairs ∙ e.2) in
      let whole : entry ≡ (1, text l.0) ∷ [] =
      e.1 ∙ ap₂ (λ (ps : List Pair) (vs : List Value). with_content ps vs) o.directories l.1 in
      subst (λ (x : List (ℕ × Value)). with_content (path_pair ∷ []) (directory_entry x) ≡ x) (sym whole) refl

  directories_same : (m : ℕ) → directory_numbered new (suc m) ≡ directory_numbered h (suc m)
  directories_same m =
      let entries = entries_in h.directories in
      new_numbered new.directories (suc m)
      ∙ ap (option_map (with_content (path_pair ∷ []))) (slice_get-map directory_entry entries m)
      ∙ option_map-map (with_content (path_pair ∷ [])) directory_entry (slice_get entries m)
      ∙ option_same (λ e. with_content (path_pair ∷ []) (directory_entry e)) (λ e. e) (slice_get entries m)
      (λ entry here. same_directory entry m here)
      ∙ option_map-same (slice_get entries m) ∙ sym (old_numbered h.directories m)

  same_file : (file : List (ℕ × Value)) (m : ℕ) → slice_get (entries_in h.files) m ≡ Some file
      → said_of (new_file (file_numbers (entries_in h.files)) file) ≡ said_of file
  same_file file m here =
      let e = entry_is h.files m file o.sound.files here in
      let pairs = ap (λ (ps : List Pair). wrong_value h.files.format 0 ps e.0) o.files in
      let l = listed_file_is h.files.format e.0 (sym pairs ∙ e.2) in
      said_again (entries_in h.files) m file here l.0 l.1 l.2 l.3
      (e.1 ∙ ap₂ (λ (ps : List Pair) (vs : List Value). with_content ps vs) o.files l.4)

  files_same : (m : ℕ) → option_map said_of (file_numbered new (suc m)) ≡ option_map said_of (file_numbered h (suc m))
  files_same m =
      let files = entries_in h.files in
      let numbers = file_numbers files in
      let pairs = file_pairs numbers in
      ap (option_map said_of)
      (new_numbered (new_files h.files) (suc m)
      ∙ ap (option_map (with_content pairs)) (first_again (file_entry numbers) files m)
      ∙ option_map-map (with_content pairs) (file_entry numbers) (slice_get files m))
      ∙ option_map-map said_of (new_file numbers) (slice_get files m)
      ∙ option_same (λ f. said_of (new_file numbers f)) said_of (slice_get files m) (λ file here. same_file file m here)
      ∙ ap (option_map said_of) (sym (old_numbered h.files m))

  file_0 : (files : List (List (ℕ × Value))) (pairs : List Pair) (g : List (ℕ × Value) → List Value)
      → option_map (with_content pairs) (slice_get (map g (first_of files ++ files)) 0)
      ≡ option_map (with_content pairs) (slice_get (map g (first_of files ++ files)) 1)
  file_0 [] pairs g = refl
  file_0 (f ∷ files) pairs g = refl

  means_the_same : MeansTheSame h new
  means_the_same = record { directories = by_directory; files = by_file } where
    by_directory : (n : ℕ) → 1 ≤ n → directory_numbered new n ≡ directory_numbered h n
    by_directory zero some = absurd (omega (arith, some))
    by_directory (suc m) some = directories_same m

    by_file : (n : ℕ) → 1 ≤ n → option_map said_of (file_numbered new n) ≡ option_map said_of (file_numbered h n)
    by_file zero some = absurd (omega (arith, some))
    by_file (suc m) some = files_same m

pub numbers_mean_the_same : NumbersMeanTheSame
numbers_mean_the_same h directory o =
    let files = entries_in h.files in
    let numbers = file_numbers files in
    rw (is_new h directory o) (
      means_the_same h directory o,
      new_numbered h directory o (new_directories directory h.directories) 0,
      new_numbered h directory o (new_files h.files) 0
          ∙ file_0 h directory o files (file_pairs numbers) (file_entry numbers)
          ∙ sym (new_numbered h directory o (new_files h.files) 1),
    )
