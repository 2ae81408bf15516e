-- The entries of a table of files, one after the other.
use Rattle.std.proofs.Common.{◌≡◌, ◌≤◌, ◌<◌, ℕ, zero, suc, ◌+◌, Bool, List, [], ◌∷◌, ◌++◌, length, Option, Some, None}
use Rattle.std.proofs.Common.{arith, refl, ap, ap₂, ◌∙◌, append-nil, length-append}
use Rattle.std.specs.Prelude.{option_map}
use Rattle.std.specs.List.{flat_map}
use Rattle.std.specs.Option.{option_copied, option_to_list}
use Rattle.std.proofs.lemmas.Grind.{flat_map-append}
use Rattle.dl_sources.specs.declared.entries.UnitTable.{UnitTable}
use Rattle.dl_field.specs.HeaderData.{HeaderData}
use Rattle.dl_print.specs.ValueText.{Strings, strings_of}
use Rattle.dl_path.specs.Paths.{compiled_in, path_of}
use Rattle.dl_sources.specs.declared.counting.Counts.{Counts}
use Rattle.dl_sources.specs.Entries.{entry_told, numbers_from, sum_told}
use Rattle.dl_sources.specs.UnitEntries.{counts_at, entry_seen}
use Rattle.dl_sources.specs.Sources.{Mention}

-- one number more
pub numbers_push : (first count : ℕ) → numbers_from first (suc count) ≡ numbers_from first count ++ (first + count) ∷ []
numbers_push first zero = ap (λ (n : ℕ). n ∷ []) (omega arith)
numbers_push first (suc count) =
    ap (λ (l : List ℕ). first ∷ l) (numbers_push (first + 1) count
    ∙ ap (λ (n : ℕ). numbers_from (first + 1) count ++ n ∷ []) (omega arith))

pub flat_push : {A : Type 0} (f : ℕ → List A) (first count : ℕ)
    → flat_map f (numbers_from first (count + 1)) ≡ flat_map f (numbers_from first count) ++ f (first + count)
flat_push f first count =
    let more : count + 1 ≡ suc count = omega arith in
    ap (λ (n : ℕ). flat_map f (numbers_from first n)) more
    ∙ ap (flat_map f) (numbers_push first count)
    ∙ flat_map-append f (numbers_from first count) ((first + count) ∷ [])
    ∙ ap (λ (l : List _). flat_map f (numbers_from first count) ++ l) (append-nil (f (first + count)))

one_told : (o : Option Mention) → length (option_to_list o) ≤ 1
one_told None = omega arith
one_told (Some m) = omega arith

few_at : (s : Strings) (directory : Option (List ℕ)) (md5 : Bool) (h : HeaderData) (counts : ℕ → Counts) (n : ℕ)
    → length (entry_told s directory md5 h counts n) ≤ 1
few_at s directory md5 h counts n = one_told (option_map (λ path. record {
  path = compiled_in directory path;
  counts = counts n;
  sum = sum_told md5 h n;
}) (path_of s (Some h) n))

pub few_told : (s : Strings) (directory : Option (List ℕ)) (md5 : Bool) (h : HeaderData) (counts : ℕ → Counts) (first count : ℕ)
    → length (flat_map (entry_told s directory md5 h counts) (numbers_from first count)) ≤ count
few_told s directory md5 h counts first zero = omega arith
few_told s directory md5 h counts first (suc count) = omega (
  arith,
  few_told s directory md5 h counts (first + 1) count,
  few_at s directory md5 h counts first,
  length-append (entry_told s directory md5 h counts first)
      (flat_map (entry_told s directory md5 h counts) (numbers_from (first + 1) count)),
)

pub few_seen : (u : UnitTable) (first count : ℕ) → length (flat_map (entry_seen u) (numbers_from first count)) ≤ count
few_seen u first count =
    few_told (strings_of u.strings.now) (option_copied u.directory) u.md5 u.header.now (counts_at u.counts.now) first count

-- counts that are the same of each number
pub same_told : (s : Strings) (directory : Option (List ℕ)) (md5 : Bool) (h : HeaderData) (f g : ℕ → Counts) (end first count : ℕ)
    → first + count ≤ end → ((n : ℕ) → n < end → f n ≡ g n)
    → flat_map (entry_told s directory md5 h f) (numbers_from first count)
    ≡ flat_map (entry_told s directory md5 h g) (numbers_from first count)
same_told s directory md5 h f g end first zero within same = refl
same_told s directory md5 h f g end first (suc count) within same =
    ap₂ (λ (a b : List Mention). a ++ b)
    (ap (λ c. option_to_list (option_map (λ path. record {
      path = compiled_in directory path;
      counts = c;
      sum = sum_told md5 h first;
    }) (path_of s (Some h) first))) (same first (omega (arith, within))))
    (same_told s directory md5 h f g end (first + 1) count (omega (arith, within)) same)
