-- The texts of a path, each shown on its own, and the whole path shown.
use Rattle.std.proofs.Common.{◌≡◌, ◌∙◌, ℕ, Bool, true, false, List, [], ◌∷◌, ◌++◌, Option, Some, None, refl, sym, ap, codes}
use Rattle.std.proofs.Common.{append_assoc, append-nil, option_map}
use Rattle.std.specs.Prelude.{cond, flat_map, unwrap_or}
use Rattle.std.specs.Option.{option_map_or}
use Rattle.std.proofs.lemmas.Grind.{flat_map-append}
use Rattle.dl_path.specs.Paths.{compiled_in, is_whole, slash_after, under}
use Rattle.dl_path.specs.PathTexts.{FileParts, file_parts, folder, joined, root_of, text_if_any, texts_under}
use Rattle.dl_path.specs.Shown.{shown}
use Rattle.dl_path.proofs.PathLemmas.{apart, over_parts}
use Rattle.dl_path.proofs.PathTextLemmas.{parts_make_path}
use Rattle.dl_path.proofs.ShownLemmas.{shown_at_slash}
use Rattle.dl_listing.specs.Listing.{path_text}
use Rattle.dl_listing.specs.ListingLaws.{PathsAreShownWhole}

-- a directory with what stands after it
abbrev folder_shown : List ℕ → List ℕ
folder_shown directory = shown directory ++ slash_after directory

under_shown : (directory path : List ℕ) → shown (under directory path) ≡ folder_shown directory ++ shown path
under_shown = apart shown refl shown_at_slash

folder_is : (directory : List ℕ) → shown (folder directory) ≡ folder_shown directory
folder_is directory =
    ap shown (sym (append-nil (folder directory)))
    ∙ under_shown directory []
    ∙ append-nil (folder_shown directory)

any_shown : (w : List ℕ) → flat_map shown (text_if_any w) ≡ shown w
any_shown [] = refl
any_shown (b ∷ w) = append-nil (shown (b ∷ w))

-- more texts before
more_known : (a texts : List (List ℕ)) → path_text texts ≡ flat_map shown texts
    → path_text (a ++ texts) ≡ flat_map shown (a ++ texts)
more_known [] texts is = is
more_known (text ∷ a) texts is = refl

-- a path is under what comes before it
root_before : (directory : Option (List ℕ)) (path : List ℕ)
    → compiled_in directory path ≡ under (root_of directory path) path
root_before directory path = by (is_whole path) where
  by : (whole : Bool) → cond whole path (under (unwrap_or directory []) path)
      ≡ under (cond whole [] (unwrap_or directory [])) path
  by true = refl
  by false = refl

module _ (directory : Option (List ℕ)) (p : FileParts) where
  abbrev root : List ℕ
  root = root_of directory (joined p)

  abbrev first : List (List ℕ)
  first = text_if_any (folder root ++ folder p.base)

  abbrev second : List (List ℕ)
  second = text_if_any (folder p.directory)

  first_shown : flat_map shown first ≡ folder_shown root ++ folder_shown p.base
  first_shown =
      any_shown (folder root ++ folder p.base)
      ∙ under_shown root (folder p.base)
      ∙ ap (λ (l : List ℕ). folder_shown root ++ l) (folder_is p.base)

  second_shown : flat_map shown (second ++ p.name ∷ []) ≡ folder_shown p.directory ++ shown p.name
  second_shown =
      flat_map-append shown second (p.name ∷ [])
      ∙ ap (λ (l : List ℕ). l ++ (shown p.name ++ [])) (any_shown (folder p.directory) ∙ folder_is p.directory)
      ∙ ap (λ (l : List ℕ). folder_shown p.directory ++ l) (append-nil (shown p.name))

  all_shown : flat_map shown (texts_under directory p)
      ≡ (folder_shown root ++ folder_shown p.base) ++ (folder_shown p.directory ++ shown p.name)
  all_shown =
      flat_map-append shown first (second ++ p.name ∷ [])
      ∙ ap (λ (l : List ℕ). l ++ flat_map shown (second ++ p.name ∷ [])) first_shown
      ∙ ap (λ (l : List ℕ). (folder_shown root ++ folder_shown p.base) ++ l) second_shown

  whole_shown : shown (compiled_in directory (joined p))
      ≡ (folder_shown root ++ folder_shown p.base) ++ (folder_shown p.directory ++ shown p.name)
  whole_shown =
      ap shown (root_before directory (joined p))
      ∙ under_shown root (joined p)
      ∙ ap (λ (l : List ℕ). folder_shown root ++ l)
      (over_parts shown refl shown_at_slash p.base p.directory p.name
      ∙ append_assoc (folder_shown p.base) (folder_shown p.directory) (shown p.name))
      ∙ sym (append_assoc (folder_shown root) (folder_shown p.base) (folder_shown p.directory ++ shown p.name))

  under_is : path_text (texts_under directory p) ≡ shown (compiled_in directory (joined p))
  under_is =
      more_known first (second ++ p.name ∷ []) (more_known second (p.name ∷ []) refl)
      ∙ all_shown
      ∙ sym whole_shown

pub paths_are_shown_whole : PathsAreShownWhole
paths_are_shown_whole s directory header file =
    by (file_parts s header file)
    ∙ ap (λ (o : Option (List ℕ)). option_map_or (λ path. shown (compiled_in directory path)) o (codes "??"))
    (parts_make_path s header file)
  where
    by : (o : Option FileParts) → path_text (option_map_or (texts_under directory) o [])
        ≡ option_map_or (λ path. shown (compiled_in directory path)) (option_map joined o) (codes "??")
    by None = refl
    by (Some p) = under_is directory p
