-- A file has the same path under a header in version 5.
use Rattle.std.proofs.Common.{◌≡◌, ℕ, zero, suc, ◌≤◌, Bool, true, false, cond, ◌||◌, List, [], Option, Some, None}
use Rattle.std.proofs.Common.{refl, sym, ap, ◌∙◌, arith}
use Rattle.std.specs.Prelude.{option_map, unwrap_or}
use Rattle.std.specs.Option.{option_and_then}
use Rattle.std.proofs.lemmas.Bool.{ne_eqb}
use Rattle.dl_table.specs.Value.{Value}
use Rattle.dl_field.specs.HeaderData.{HeaderData}
use Rattle.dl_head.specs.Numbers.{file_numbered}
use Rattle.dl_print.specs.ValueText.{Strings}
use Rattle.dl_emit.specs.Conversion.{first_directory, to_version_5}
use Rattle.dl_emit.specs.ConversionLaws.{FileSaid, IsOlderHeader, MeansTheSame, said_of}
use Rattle.dl_emit.proofs.ConversionLaws.{numbers_mean_the_same}
use Rattle.dl_path.specs.Paths.{directory_path, directory_text, file_path, is_whole, number_or_zero, own_path, text_of}
use Rattle.dl_path.specs.Paths.{under}
use Rattle.dl_path.specs.PathLaws.{directory_under, PathsMeanTheSame}

-- the path of a file, by what its entry says and the paths of directories
abbrev path_said : Strings → (directory : ℕ → Option (List ℕ)) → FileSaid → Option (List ℕ)
path_said s directory said =
    option_map (λ path. cond (is_whole path) path
    (under (unwrap_or (directory (number_or_zero said.directory)) []) path)) (option_and_then (text_of s) said.path)

by_said : (s : Strings) (directory : ℕ → Option (List ℕ)) (o : Option (List (ℕ × Value)))
    → option_and_then (λ entry. path_said s directory (said_of entry)) o
    ≡ option_and_then (path_said s directory) (option_map said_of o)
by_said s directory None = refl
by_said s directory (Some entry) = refl

map_same : {A B : Type 0} (f g : A → B) (o : Option A) → ((x : A) → f x ≡ g x) → option_map f o ≡ option_map g o
map_same f g None same = refl
map_same f g (Some x) same = ap (λ y. Some y) (same x)

then_same : {A B : Type 0} (f g : A → Option B) (o : Option A) → ((x : A) → f x ≡ g x)
    → option_and_then f o ≡ option_and_then g o
then_same f g None same = refl
then_same f g (Some x) same = same x

or_true : (b : Bool) → (b || true) ≡ true
or_true true = refl
or_true false = refl

or_false : (b : Bool) → (b || false) ≡ b
or_false true = refl
or_false false = refl

module _ (s : Strings) (h : HeaderData) (directory : Option (List ℕ)) (o : IsOlderHeader h) where
  abbrev new : HeaderData
  new = to_version_5 h directory

  abbrev compilation : List ℕ
  compilation = first_directory directory

  same : MeansTheSame h new
  same = (numbers_mean_the_same h directory o).0

  first : directory_text s new 0 ≡ Some compilation
  first = ap (option_and_then (own_path s)) (numbers_mean_the_same h directory o).1

  directories : (n : ℕ) → directory_path s new n ≡ directory_under s compilation h n
  directories zero =
      ap (option_map (λ path. cond (is_whole path || true) path (under (unwrap_or (directory_text s new 0) []) path)))
      first
      ∙ ap (λ b. Some (cond b compilation (under (unwrap_or (directory_text s new 0) []) compilation)))
      (or_true (is_whole compilation))
  directories (suc m) =
      let other = ne_eqb (suc m) 0 (λ e. omega (arith, e)) in
      rw (other, first)
      (ap (option_map (λ path. cond (is_whole path || false) path (under compilation path)))
      (ap (option_and_then (own_path s)) (same.directories (suc m) (omega arith)))
      ∙ map_same _ _ (directory_text s h (suc m))
      (λ path. ap (λ b. cond b path (under compilation path)) (or_false (is_whole path))))

  paths : (file : ℕ) → 1 ≤ file
      → option_and_then (file_path s new) (file_numbered new file)
      ≡ option_and_then (λ entry. path_said s (directory_under s compilation h) (said_of entry)) (file_numbered h file)
  paths file some =
      by_said s (directory_path s new) (file_numbered new file)
      ∙ ap (option_and_then (path_said s (directory_path s new))) (same.files file some)
      ∙ then_same (path_said s (directory_path s new)) (path_said s (directory_under s compilation h)) _
      (λ said. map_same _ _ (option_and_then (text_of s) said.path)
      (λ path. ap (λ d. cond (is_whole path) path (under (unwrap_or d []) path))
      (directories (number_or_zero said.directory))))
      ∙ sym (by_said s (directory_under s compilation h) (file_numbered h file))

pub paths_mean_the_same : PathsMeanTheSame
paths_mean_the_same s h directory file o some = paths s h directory o file some
