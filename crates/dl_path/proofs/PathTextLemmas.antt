-- The parts and the texts of a path are the path.
use Rattle.std.proofs.Common.{◌≡◌, ◌≤◌, ℕ, Bool, true, false, ◌||◌, List, [], ◌∷◌, ◌++◌, length, Option, Some, None}
use Rattle.std.proofs.Common.{refl, sym, ap, ◌∙◌, arith, append-nil, append_assoc, length-append}
use Rattle.std.specs.Prelude.{cond, ◌==◌, option_map, unwrap_or}
use Rattle.std.specs.List.{concat}
use Rattle.std.specs.Option.{option_and_then, option_map_or}
use Rattle.dl_field.specs.HeaderData.{HeaderData}
use Rattle.dl_head.specs.Numbers.{file_numbered}
use Rattle.dl_table.specs.Value.{Value}
use Rattle.dl_print.specs.ValueText.{Strings}
use Rattle.dl_path.specs.Paths.{compiled_in, directory_of, directory_path, directory_text, file_path, is_whole, own_path}
use Rattle.dl_path.specs.Paths.{path_of, slash_after, under}
use Rattle.dl_path.specs.declared.parts.Parts.{Parts}
use Rattle.dl_path.specs.PathParts.{parts_apart, parts_seen}
use Rattle.dl_path.specs.PathTexts.{FileParts, base_of, by_itself, entry_parts, file_parts, folder, joined, parts_in}
use Rattle.dl_path.specs.PathTexts.{root_of, text_if_any, texts_under}
use Rattle.dl_path.specs.TextLaws.{AtMostThree, PartsMakePath, TextsMakePath}
use Rattle.dl_path.proofs.PathLemmas.{slash_after-under}

-- ---- the parts

-- a directory that isn't whole is under directory 0
directory_joined : (whole : Bool) (zero_text directory name : List ℕ)
    → under (under (cond whole [] zero_text) directory) name
    ≡ under (cond whole directory (under zero_text directory)) name
directory_joined true zero_text directory name = refl
directory_joined false zero_text directory name = refl

module _ (s : Strings) (h : HeaderData) where
  joined_in : (n : ℕ) (name : List ℕ) → joined (parts_in s h n name) ≡ under (unwrap_or (directory_path s h n) []) name
  joined_in n name = by (directory_text s h n) where
    by : (o : Option (List ℕ))
        → joined (option_map_or (λ directory. record { base = base_of s h n directory; directory = directory; name = name })
        o (by_itself name))
        ≡ under (unwrap_or (option_map (λ path. cond (is_whole path || (n == 0)) path
        (under (unwrap_or (directory_text s h 0) []) path)) o) []) name
    by None = refl
    by (Some directory) =
        directory_joined (is_whole directory || (n == 0)) (unwrap_or (directory_text s h 0) []) directory name

  joined_entry : (entry : List (ℕ × Value)) → option_map joined (entry_parts s h entry) ≡ file_path s h entry
  joined_entry entry = by (own_path s entry) where
    chosen : (whole : Bool) (name : List ℕ)
        → joined (cond whole (by_itself name) (parts_in s h (directory_of entry) name))
        ≡ cond whole name (under (unwrap_or (directory_path s h (directory_of entry)) []) name)
    chosen true name = refl
    chosen false name = joined_in (directory_of entry) name

    by : (o : Option (List ℕ))
        → option_map joined (option_map (λ name. cond (is_whole name) (by_itself name)
        (parts_in s h (directory_of entry) name)) o)
        ≡ option_map (λ path. cond (is_whole path) path
        (under (unwrap_or (directory_path s h (directory_of entry)) []) path)) o
    by None = refl
    by (Some name) = ap (λ (w : List ℕ). Some w) (chosen (is_whole name) name)

pub parts_make_path : PartsMakePath
parts_make_path s None file = refl
parts_make_path s (Some h) file = by (file_numbered h file) where
  by : (o : Option (List (ℕ × Value)))
      → option_map joined (option_and_then (entry_parts s h) o) ≡ option_and_then (file_path s h) o
  by None = refl
  by (Some entry) = joined_entry s h entry

map_twice : {A B C : Type 0} (f : B → C) (g : A → B) (o : Option A)
    → option_map f (option_map g o) ≡ option_map (λ a. f (g a)) o
map_twice f g None = refl
map_twice f g (Some a) = refl

-- parts that are a file's are its path
pub seen_of_apart : (s : Strings) (header : Option HeaderData) (file : ℕ) (parts : Option Parts)
    → option_map parts_apart parts ≡ file_parts s header file → option_map parts_seen parts ≡ path_of s header file
seen_of_apart s header file parts is =
    sym (map_twice joined parts_apart parts) ∙ ap (option_map joined) is ∙ parts_make_path s header file

-- ---- the texts

concat_if_any : (w : List ℕ) (texts : List (List ℕ)) → concat (text_if_any w ++ texts) ≡ w ++ concat texts
concat_if_any [] texts = refl
concat_if_any (b ∷ w) texts = refl

-- what comes before a path is what it is under
root_before : (directory : Option (List ℕ)) (path : List ℕ)
    → folder (root_of directory path) ++ path ≡ compiled_in directory path
root_before directory path = by (is_whole path) where
  by : (whole : Bool)
      → folder (cond whole [] (unwrap_or directory [])) ++ path ≡ cond whole path (under (unwrap_or directory []) path)
  by true = refl
  by false = refl

-- a path in folders, one after the other
folders : (p : FileParts) → joined p ≡ folder p.base ++ (folder p.directory ++ p.name)
folders p =
    ap (λ (w : List ℕ). (under p.base p.directory ++ w) ++ p.name) (slash_after-under p.base p.directory)
    ∙ ap (λ (w : List ℕ). w ++ p.name) (append_assoc (folder p.base) p.directory (slash_after p.directory))
    ∙ append_assoc (folder p.base) (folder p.directory) p.name

concat_under : (directory : Option (List ℕ)) (p : FileParts)
    → concat (texts_under directory p) ≡ compiled_in directory (joined p)
concat_under directory p =
    let root = folder (root_of directory (joined p)) in
    concat_if_any (root ++ folder p.base) (text_if_any (folder p.directory) ++ p.name ∷ [])
    ∙ ap (λ (w : List ℕ). (root ++ folder p.base) ++ w) (concat_if_any (folder p.directory) (p.name ∷ []))
    ∙ ap (λ (w : List ℕ). (root ++ folder p.base) ++ (folder p.directory ++ w)) (append-nil p.name)
    ∙ append_assoc root (folder p.base) (folder p.directory ++ p.name)
    ∙ ap (λ (w : List ℕ). root ++ w) (sym (folders p))
    ∙ root_before directory (joined p)

pub texts_make_path : TextsMakePath
texts_make_path s directory header file =
    by (file_parts s header file)
    ∙ ap (λ (o : Option (List ℕ)). option_map_or (compiled_in directory) o []) (parts_make_path s header file)
  where
    by : (o : Option FileParts)
        → concat (option_map_or (texts_under directory) o []) ≡ option_map_or (compiled_in directory) (option_map joined o) []
    by None = refl
    by (Some p) = concat_under directory p

at_most_one : (w : List ℕ) → length (text_if_any w) ≤ 1
at_most_one [] = omega arith
at_most_one (b ∷ w) = omega arith

few_under : (directory : Option (List ℕ)) (p : FileParts) → length (texts_under directory p) ≤ 3
few_under directory p =
    let first = text_if_any (folder (root_of directory (joined p)) ++ folder p.base) in
    let second = text_if_any (folder p.directory) in
    omega (
      arith,
      length-append first (second ++ p.name ∷ []),
      length-append second (p.name ∷ []),
      at_most_one (folder (root_of directory (joined p)) ++ folder p.base),
      at_most_one (folder p.directory),
    )

pub at_most_three : AtMostThree
at_most_three s directory header file = by (file_parts s header file) where
  by : (o : Option FileParts) → length (option_map_or (texts_under directory) o []) ≤ 3
  by None = omega arith
  by (Some p) = few_under directory p
