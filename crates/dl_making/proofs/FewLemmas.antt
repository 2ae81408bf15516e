-- How many texts and files are added, and how long the texts are.
use Rattle.std.proofs.Common.{◌≡◌, ◌≤◌, ℕ, ◌+◌, ◌*◌, Bool, true, false, ◌&&◌, eqb, List, [], ◌∷◌, ◌++◌, length, length-append}
use Rattle.std.proofs.Common.{Option, Some, None, Result, Ok, Err, arith, sym, ap, ◌∙◌, subst}
use Rattle.std.specs.Prelude.{if◌then◌else◌, not, option_map, unwrap_or, IfSome, OnOk}
use Rattle.std.specs.List.{All, AllByRecursion, list_any, sum_by}
use Rattle.std.specs.Option.{option_map_or}
use Rattle.std.specs.Str.{bytes_eq}
use Rattle.std.proofs.lemmas.List.Elements.{All-push}
use Rattle.std.proofs.lemmas.List.Sums.{sum_by-cons}
use Rattle.dl_table.specs.declared.form.Format.{Format}
use Rattle.dl_table.specs.declared.table.Pair.{Pair}
use Rattle.dl_table.specs.Built.{entry_fault, entry_fault_of, wrong_value}
use Rattle.dl_table.specs.Sound.{IsSoundTable}
use Rattle.dl_table.specs.TableCells.{table_cells, value_cells}
use Rattle.dl_table.specs.TableData.{TableData}
use Rattle.dl_table.specs.Value.{Value}
use Rattle.dl_table.specs.Value as value
use Rattle.dl_path.specs.Paths.{beside_table, is_whole, slash_after}
use Rattle.dl_path.specs.PathTexts.{folder, root_of}
use Rattle.dl_pack.specs.declared.names.Names.{Names}
use Rattle.dl_pack.specs.Named.{with_text}
use Rattle.dl_pack.specs.Shown.{named_files, texts_of}
use Rattle.dl_making.specs.Few.{AddsFew, TextsWithin}

-- ---- directories

pub slash_few : (directory : List ℕ) → length (slash_after directory) ≤ 1
slash_few [] = omega arith
slash_few (b ∷ []) = by (eqb b 0x2f) where
  by : (is : Bool) → length {A = ℕ} (if is then [] else 0x2f ∷ []) ≤ 1
  by true = omega arith
  by false = omega arith
slash_few (b ∷ c ∷ directory) = slash_few (c ∷ directory)

pub folder_few : (directory : List ℕ) → length (folder directory) ≤ length directory + 1
folder_few directory = omega (arith, length-append directory (slash_after directory), slash_few directory)

pub folders_few : (first second text : List ℕ) → text ≡ folder first ++ folder second
    → length text ≤ length first + length second + 2
folders_few first second text is =
    omega (arith, ap length is, length-append (folder first) (folder second), folder_few first, folder_few second)

pub root_few : (directory : Option (List ℕ)) (path : List ℕ)
    → length (root_of directory path) ≤ option_map_or length directory 0
root_few directory path = by (is_whole path) directory where
  by : (whole : Bool) (o : Option (List ℕ)) → length (if whole then [] else unwrap_or o []) ≤ option_map_or length o 0
  by true o = omega arith
  by false None = omega arith
  by false (Some d) = omega arith

-- the directory that counts is no longer than the one that is said
pub beside_few : (has : Bool) (directory : Option (List ℕ))
    → option_map_or length (beside_table has directory) 0 ≤ option_map_or length directory 0
beside_few has None = omega arith
beside_few has (Some d) = by (has && not (is_whole d)) where
  by : (none : Bool) → option_map_or length (if none then None else Some d) 0 ≤ length d
  by true = omega arith
  by false = omega arith

-- ---- texts

module _ (old new : Names) where
  texts_pushed : (text : List ℕ) (known : Bool) (texts : List (List ℕ))
      → texts ≡ (if known then texts_of old else texts_of old ++ text ∷ [])
      → (length texts ≤ length (texts_of old) + 1)
      × ((longest : ℕ) → length text ≤ longest → TextsWithin longest (texts_of old) → TextsWithin longest texts)
  texts_pushed text true texts is =
      (omega (arith, ap length is), λ longest within all. subst (TextsWithin longest) (sym is) all)
  texts_pushed text false texts is = (
    omega (arith, ap length is, length-append (texts_of old) (text ∷ [])),
    λ longest within all. subst (TextsWithin longest) (sym is)
        (All-push (λ (t : List ℕ). length t ≤ longest) (texts_of old) text all within),
  )

  -- one text is added, where there isn't one that is equal
  pub adds_text : (added : Bool) (text : List ℕ) (most : ℕ)
      → texts_of new ≡ (if added then with_text (texts_of old) text else texts_of old)
      → named_files new ≡ named_files old → length text ≤ most → AddsFew 1 0 most old new
  adds_text true text most is files within =
      let few = texts_pushed text (list_any (bytes_eq text) (texts_of old)) (texts_of new) is in
      record {
        texts_few = few.0;
        files_few = omega (arith, ap length files);
        each = λ longest le. few.1 longest (omega (arith, within, le));
      }
  adds_text false text most is files within = record {
    texts_few = omega (arith, ap length is);
    files_few = omega (arith, ap length files);
    each = λ longest le all. subst (TextsWithin longest) (sym is) all;
  }

  -- one file is added, and no text
  pub adds_file : texts_of new ≡ texts_of old → length (named_files new) ≤ length (named_files old) + 1 → AddsFew 0 1 0 old new
  adds_file is few = record {
    texts_few = omega (arith, ap length is);
    files_few = few;
    each = λ longest le all. subst (TextsWithin longest) (sym is) all;
  }

  pub adds_less : (texts files most texts2 files2 most2 : ℕ) → texts ≤ texts2 → files ≤ files2 → most ≤ most2
      → AddsFew texts files most old new → AddsFew texts2 files2 most2 old new
  adds_less texts files most texts2 files2 most2 a b c few = record {
    texts_few = omega (arith, a, few.texts_few);
    files_few = omega (arith, b, few.files_few);
    each = λ longest le. few.each longest (omega (arith, c, le));
  }

  pub adds_none : texts_of new ≡ texts_of old → named_files new ≡ named_files old → (texts files most : ℕ)
      → AddsFew texts files most old new
  adds_none same files_same texts files most = record {
    texts_few = omega (arith, ap length same);
    files_few = omega (arith, ap length files_same);
    each = λ longest le all. subst (TextsWithin longest) (sym same) all;
  }

-- one after the other
pub adds_more : (texts files texts2 files2 most : ℕ) (a b c : Names) → AddsFew texts files most a b
    → AddsFew texts2 files2 most b c → AddsFew (texts + texts2) (files + files2) most a c
adds_more texts files texts2 files2 most a b c first second = record {
  texts_few = omega (arith, first.texts_few, second.texts_few);
  files_few = omega (arith, first.files_few, second.files_few);
  each = λ longest le all. second.each longest le (first.each longest le all);
}

-- what holds whatever a call answers
pub given : {A E P : Type 0} (r : Result A E) → P → OnOk r P
given (Ok a) p = p
given (Err e) p = tt

-- what holds of each part of a path that is seen by its parts
pub seen_apart : {A B : Type 0} (f : A → B) (P : B → Type 0) (o : Option A) (q : Option B) → option_map f o ≡ q → IfSome q P
    → IfSome o (λ a. P (f a))
seen_apart f P o q is all = by o (subst (λ (r : Option _). IfSome r P) (sym is) all) where
  by : (o : Option _) → IfSome (option_map f o) P → IfSome o (λ a. P (f a))
  by None all = tt
  by (Some a) all = all

-- ---- entries of tables

one_cell : (v : Value) → 1 ≤ value_cells v
one_cell (value.text w) = omega arith
one_cell (value.block w) = omega arith
one_cell v = omega arith

some_cells : (format : Format) (pairs : List Pair) (values : List Value)
    → entry_fault_of pairs (wrong_value format 0 pairs values) ≡ None → 1 ≤ sum_by value_cells values
some_cells format [] values right = absurd cc
some_cells format (p ∷ pairs) [] right = absurd cc
some_cells format (p ∷ pairs) (v ∷ values) right = omega (arith, sum_by-cons value_cells v values, one_cell v)

-- each entry of a table that can be built has a cell
pub entries_few : (t : TableData) → IsSoundTable t → length t.entries ≤ table_cells t
entries_few t sound = omega (arith, all t.entries sound.entries) where
  all : (entries : List (List Value)) → AllByRecursion (λ (values : List Value). entry_fault t values ≡ None) entries
      → length entries ≤ sum_by (λ (entry : List Value). sum_by value_cells entry) entries
  all [] right = omega arith
  all (e ∷ entries) right =
      omega (
        arith,
        some_cells t.format t.pairs e right.0,
        all entries right.1,
        sum_by-cons (λ (entry : List Value). sum_by value_cells entry) e entries,
      )
