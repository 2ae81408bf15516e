-- The files of a table, told one after the other.
use Rattle.std.proofs.Common.{◌≡◌, ℕ, Bool, ◌+◌, ◌*◌, ◌<◌, ◌≤◌, List, [], ◌∷◌, ◌++◌, length, length-append, slice_index_or, Option, Some, option_map, sym, ap, ap₂, ◌∙◌, subst, arith}
use Rattle.dl_field.specs.HeaderData.{HeaderData}
use Rattle.dl_dirs.specs.Compilation.{directory_by}
use Rattle.dl_path.specs.Paths.{beside_table, compiled_in, has_directory_0, path_of}
use Rattle.dl_print.specs.ValueText.{Strings, strings_of}
use Rattle.dl_lines.specs.declared.seeker.LineSeeker.{LineSeeker}
use Rattle.dl_lines.specs.Room.{files_count, header_room, path_room}
use Rattle.dl_lines.specs.Seeking.{known_of}
use Rattle.dl_lines.specs.declared.question.Wanted.{Wanted}
use Rattle.dl_lines.specs.declared.search.Search.{Search}
use Rattle.dl_lines.specs.Places.{CodePlace, path_in}
use Rattle.dl_lines.specs.Searching.{AllBecome, IsJudged, Judging, Stands, option_len, upto}
use Rattle.dl_lines.proofs.FileLemmas.{judges}

one_longer : {A : Type 0} (l : List A) (x : A) → length (l ++ x ∷ []) ≡ length l + 1
one_longer l x = length-append l (x ∷ [])

pub judged_all : (searches after : List Search) (wanted : List Wanted) (exact : Bool) (ended : List CodePlace)
    (path : ℕ → Option (List ℕ)) (rows files count : ℕ) (p : Option (List ℕ)) → path count ≡ p
    → AllBecome (λ old new. IsJudged old new p) searches after
    → Judging searches wanted exact ended path rows files count
    → Judging after wanted exact ended path rows files (count + 1)
judged_all searches after wanted exact ended path rows files count p is all j = record {
  same = all.count ∙ j.same;
  stands = λ i d w lt. (
      let within : i < length searches = omega (arith, lt, j.same) in
      let old = slice_index_or searches i d in
      let new = slice_index_or after i d in
      let told : IsJudged old new (path count) = subst (IsJudged old new) (sym is) (all.each i d within) in
      let n : files + count + 1 ≡ files + (count + 1) = omega arith in
      subst (λ (k : ℕ). Stands new (slice_index_or wanted i w) exact ended [] (upto (count + 1) path) rows k) n
      (judges old new (slice_index_or wanted i w) exact ended [] path rows (files + count) count (j.stands i d w lt)
      (j.told i d within) told));
  told = λ i d lt. (
      let within : i < length searches = omega (arith, lt, all.count) in
      ap length (all.each i d within).files ∙ one_longer (slice_index_or searches i d).files.items _
      ∙ ap (λ (n : ℕ). n + 1) (j.told i d within));
}

pub judging_few : (searches : List Search) (wanted : List Wanted) (exact : Bool) (ended : List CodePlace)
    (path : ℕ → Option (List ℕ)) (rows files count : ℕ) (p : Option (List ℕ))
    → Judging searches wanted exact ended path rows files count → (i : ℕ) (d : Search) → i < length searches
    → length (slice_index_or searches i d).paths.items + length (slice_index_or searches i d).files.items + option_len p + 1
    ≤ files + 2 * count + option_len p + 1
judging_few searches [] exact ended path rows files count p j i d lt = absurd (omega (arith, lt, j.same))
judging_few searches (w ∷ wanted) exact ended path rows files count p j i d lt =
    let here = j.stands i d w (omega (arith, lt, j.same)) in
    omega (arith, here.few_paths, j.told i d lt)

-- the path of a file, by what a seeker knows
pub path_is : {M : Type 0} (l : LineSeeker M) (s : Strings) (directory : Option (List ℕ)) (offset : ℕ) (h : HeaderData)
    (file : ℕ) → s ≡ strings_of l.strings.now
    → directory ≡ beside_table (has_directory_0 (Some h)) (directory_by l.directories offset)
    → path_in (known_of l) offset (Some h) file ≡ option_map (compiled_in directory) (path_of s (Some h) file)
path_is l s directory offset h file strings is =
    ap₂ (λ (t : Strings) (d : Option (List ℕ)). option_map (compiled_in d) (path_of t (Some h) file)) (sym strings) (sym is)

pub room_is : {M : Type 0} (l : LineSeeker M) (s : Strings) (directory : Option (List ℕ)) (offset : ℕ) (h : HeaderData)
    (files count : ℕ) → s ≡ strings_of l.strings.now
    → directory ≡ beside_table (has_directory_0 (Some h)) (directory_by l.directories offset) → count ≤ files_count h
    → files + 2 * count + path_room s directory h + 1 ≤ files + header_room (known_of l) offset h
room_is l s directory offset h files count strings is le =
    let same : path_room s directory h
    ≡ path_room (strings_of l.strings.now) (beside_table (has_directory_0 (Some h)) (directory_by l.directories offset)) h =
    ap₂ (λ (t : Strings) (d : Option (List ℕ)). path_room t d h) strings is in
    by (path_room s directory h)
    (path_room (strings_of l.strings.now) (beside_table (has_directory_0 (Some h)) (directory_by l.directories offset)) h)
    (files_count h) same le where
      by : (a b n : ℕ) → a ≡ b → count ≤ n → files + 2 * count + a + 1 ≤ files + (2 * n + b + 1)
      by a b n e le = omega (arith, e, le)

pub one_room : {M : Type 0} (l : LineSeeker M) (offset : ℕ) (h : HeaderData) (files : ℕ)
    → files + 1 ≤ files + header_room (known_of l) offset h
one_room l offset h files =
    by (files_count h)
    (path_room (strings_of l.strings.now) (beside_table (has_directory_0 (Some h)) (directory_by l.directories offset)) h) where
      by : (n a : ℕ) → files + 1 ≤ files + (2 * n + a + 1)
      by n a = omega arith
