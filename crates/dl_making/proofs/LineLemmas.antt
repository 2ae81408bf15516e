-- The lines of an index are those that `addr` prints.
use Rattle.std.proofs.Common.{◌≡◌, ◌∙◌, ℕ, ◌-◌, ◌<◌, ◌^◌, Bool, true, false, List, [], ◌∷◌, ◌++◌, Option, Some, None}
use Rattle.std.proofs.Common.{refl, sym, ap, ap₂, arith}
use Rattle.std.specs.Prelude.{if◌then◌else◌, nat_le, IfSome}
use Rattle.std.specs.List.{concat}
use Rattle.std.specs.Option.{option_and_then, option_copied, option_map, option_map_or}
use Rattle.dl_field.specs.HeaderData.{HeaderData}
use Rattle.dl_print.specs.ValueText.{Strings}
use Rattle.dl_path.specs.Paths.{compiled_in, path_of}
use Rattle.dl_path.specs.PathTexts.{FileParts, file_parts, joined, path_texts, text_if_any, texts_under}
use Rattle.dl_path.proofs.PathTextLemmas.{parts_make_path, texts_make_path}
use Rattle.dl_dirs.specs.Compilation.{directory_by}
use Rattle.dl_look.specs.declared.asked.Asked.{Asked}
use Rattle.dl_look.specs.declared.place.Place.{Place}
use Rattle.dl_look.specs.Asked.{place_above, place_of}
use Rattle.dl_index.specs.Telling.{find_in}
use Rattle.dl_stretch.specs.Runs.{place_at}
use Rattle.dl_addr.specs.AroundCommands.{located_around}
use Rattle.dl_addr.specs.Code.{is_code}
use Rattle.dl_addr.specs.Location.{location_at}
use Rattle.dl_addr.specs.Locations.{Located, compilation_directory, located, location_line, location_of}
use Rattle.dl_addr.specs.declared.question.Question.{Question}
use Rattle.dl_making.specs.declared.making.Table.{Table}
use Rattle.dl_making.specs.LineLaws.{AnswersOfIndex, AnswersOfIndexAround, IsAskedWith, LinesOfIndex, LinesOfIndexAround}
use Rattle.dl_making.specs.LineLaws.{ToldIsLocation}
use Rattle.dl_making.specs.Telling.{location_told, path_told, told_asked, told_of}

-- ---- paths

-- texts of which the last is a file's own path are one
some_path : (a b name : List ℕ) → path_told (text_if_any a ++ (text_if_any b ++ name ∷ []))
    ≡ Some (concat (text_if_any a ++ (text_if_any b ++ name ∷ [])))
some_path [] [] name = refl
some_path [] (y ∷ b) name = refl
some_path (x ∷ a) b name = refl

path_is : (s : Strings) (directory : Option (List ℕ)) (h : Option HeaderData) (file : ℕ)
    → path_told (path_texts s directory h file) ≡ option_map (compiled_in directory) (path_of s h file)
path_is s directory h file = by (file_parts s h file) refl where
  texts_of : Option FileParts → List (List ℕ)
  texts_of o = option_map_or (texts_under directory) o []

  path_by : (o : Option FileParts) → file_parts s h file ≡ o → path_of s h file ≡ option_map joined o
  path_by o is = sym (parts_make_path s h file) ∙ ap (option_map joined) is

  by : (o : Option FileParts) → file_parts s h file ≡ o
      → path_told (path_texts s directory h file) ≡ option_map (compiled_in directory) (path_of s h file)
  by None is = ap (λ o. path_told (texts_of o)) is ∙ ap (option_map (compiled_in directory)) (sym (path_by None is))
  by (Some p) is =
      ap (λ o. path_told (texts_of o)) is
      ∙ some_path _ _ p.name
      ∙ ap Some (ap (λ o. concat (texts_of o)) (sym is)
      ∙ texts_make_path s directory h file
      ∙ ap (λ o. option_map_or (compiled_in directory) o []) (path_by (Some p) is))
      ∙ ap (option_map (compiled_in directory)) (sym (path_by (Some p) is))

pub told_is_location : ToldIsLocation
told_is_location s directories l =
    ap (location_at l.row l.unit) (path_is s (compilation_directory directories l) l.header l.row.file)

-- ---- lines

module _ (s : Strings) (directories : ℕ → Option (List ℕ)) (look_up : Place → Option Located) (index : List ℕ)
    (right : (a : ℕ) → a < 2 ^ 64 → find_in index a ≡ option_map (told_of s directories) (look_up (place_at a))) where
  told_all : (o : Option Located)
      → option_map location_told (option_map (told_of s directories) o) ≡ option_map (location_of directories s) o
  told_all None = refl
  told_all (Some l) = ap Some (told_is_location s directories l)

  told_above : (base : ℕ) (o : Option ℕ) → IfSome o (λ n. n < 2 ^ 64)
      → option_map location_told (option_and_then (λ x. find_in index x.address) (option_and_then (place_above base) o))
      ≡ option_map (location_of directories s) (option_and_then look_up (option_and_then (place_above base) o))
  told_above base None lt = refl
  told_above base (Some n) lt = by (nat_le base n) where
    by : (above : Bool)
        → option_map location_told
        (option_and_then (λ x. find_in index x.address) (if above then Some (place_at (n - base)) else None))
        ≡ option_map (location_of directories s)
        (option_and_then look_up (if above then Some (place_at (n - base)) else None))
    by false = refl
    by true =
        ap (option_map location_told) (right (n - base) (omega (arith, lt)))
        ∙ told_all (look_up (place_at (n - base)))

  -- what is told of what is asked
  pub told_is : (base : ℕ) (a : Asked) → IfSome a.address (λ n. n < 2 ^ 64)
      → option_map location_told (told_asked index base a)
      ≡ option_map (location_of directories s) (option_and_then look_up (place_of base a))
  told_is base a lt = told_above base a.address lt

module _ (s : Strings) (q : Question) (table : Table) (same : IsAskedWith q table)
    (look_up : (ℕ → Bool) → Place → Option Located) where
  -- what is told with the table is told with what is asked
  same_told : (n : ℕ)
      → option_map (told_of s (directory_by table.directories)) (look_up (is_code (option_copied table.code)) (place_at n))
      ≡ option_map (told_of s (directory_by q.directories)) (look_up (is_code (option_copied q.code)) (place_at n))
  same_told n =
      sym (ap₂ (λ code ds. option_map (told_of s (directory_by ds)) (look_up (is_code (option_copied code)) (place_at n)))
      same.code same.directories)

pub answers_of_index : AnswersOfIndex
answers_of_index dialect s table units index is q a same lt =
    told_is s (directory_by q.directories) (located dialect (is_code (option_copied q.code)) units) index
    (λ n within. is.right n within ∙ same_told s q table same (λ live. located dialect live units) n) q.base a lt

pub answers_of_index_around : AnswersOfIndexAround
answers_of_index_around dialect s table blocks index is q a same lt =
    told_is s (directory_by q.directories) (located_around dialect (is_code (option_copied q.code)) blocks) index
    (λ n within. is.right n within ∙ same_told s q table same (λ live. located_around dialect live blocks) n) q.base a lt

pub lines_of_index : LinesOfIndex
lines_of_index dialect s table units index is q style a same lt =
    ap (location_line style a) (answers_of_index dialect s table units index is q a same lt)

pub lines_of_index_around : LinesOfIndexAround
lines_of_index_around dialect s table blocks index is q style a same lt =
    ap (location_line style a) (answers_of_index_around dialect s table blocks index is q a same lt)
