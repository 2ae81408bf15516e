-- Paths in one text.
use Rattle.std.proofs.Common.{◌≡◌, ◌≤◌, ℕ, ◌+◌, Bool, true, false, List, [], ◌∷◌, ◌++◌, length, length-append, Option, Some, None}
use Rattle.std.proofs.Common.{arith, refl, sym, ap, ◌∙◌, append_assoc, option_map}
use Rattle.std.specs.Prelude.{◌==◌, if◌then◌else◌, unwrap_or}
use Rattle.std.specs.Option.{option_map_or}
use Rattle.dl_field.specs.HeaderData.{HeaderData}
use Rattle.dl_print.specs.ValueText.{Strings}
use Rattle.dl_path.specs.Parts.{path_apart, path_seen}
use Rattle.dl_path.specs.declared.path.Path.{Path}
use Rattle.dl_path.specs.Paths.{compiled_in, is_whole, slash_after, under}
use Rattle.dl_path.specs.PathTexts.{file_parts, folder, root_of}
use Rattle.dl_path.specs.TextRoom.{PartsWithin, text_room}
use Rattle.dl_path.proofs.PathLemmas.{over_parts}
use Rattle.dl_path.proofs.RoomLemmas.{parts_have_room}
use Rattle.dl_lines.specs.Room.{path_room}

slash_len : (directory : List ℕ) → length (slash_after directory) ≤ 1
slash_len [] = omega arith
slash_len (b ∷ []) = by (b == 0x2f) where
  by : (is : Bool) → length (if◌then◌else◌ {A = List ℕ} is [] (0x2f ∷ [])) ≤ 1
  by true = omega arith
  by false = omega arith
slash_len (b ∷ c ∷ directory) = slash_len (c ∷ directory)

pub folder_len : (directory : List ℕ) → length (folder directory) ≤ length directory + 1
folder_len directory = omega (arith, slash_len directory, length-append directory (slash_after directory))

pub slash_few : (directory : List ℕ) → length (slash_after directory) ≤ 1
slash_few = slash_len

-- a path, directory after directory
pub text_is : (root : List ℕ) (p : Path)
    → (((([] ++ folder root) ++ folder p.base.now) ++ folder p.directory.now) ++ p.name.now) ≡ folder root ++ path_seen p
text_is root p =
    append_assoc (folder root ++ folder p.base.now) (folder p.directory.now) p.name.now
    ∙ append_assoc (folder root) (folder p.base.now) (folder p.directory.now ++ p.name.now)
    ∙ ap (λ (l : List ℕ). folder root ++ l)
    (sym (append_assoc (folder p.base.now) (folder p.directory.now) p.name.now)
    ∙ sym (over_parts (λ l. l) refl (λ a b. refl) p.base.now p.directory.now p.name.now))

-- under its compilation directory
pub compiled_is : (directory : Option (List ℕ)) (path : List ℕ)
    → folder (root_of directory path) ++ path ≡ compiled_in directory path
compiled_is directory path = by (is_whole path) where
  by : (whole : Bool) → folder (if whole then [] else unwrap_or directory []) ++ path
      ≡ (if whole then path else under (unwrap_or directory []) path)
  by true = refl
  by false = refl

root_len : (directory : Option (List ℕ)) (path : List ℕ)
    → length (root_of directory path) ≤ option_map_or length directory 0
root_len directory path = by directory (is_whole path) where
  by : (d : Option (List ℕ)) (whole : Bool) → length (if whole then [] else unwrap_or d []) ≤ option_map_or length d 0
  by d true = omega arith
  by None false = omega arith
  by (Some d) false = omega arith

-- how long its parts are
pub parts_few : (s : Strings) (directory : Option (List ℕ)) (h : HeaderData) (file : ℕ) (p : Path)
    → option_map path_apart (Some p) ≡ file_parts s (Some h) file
    → length (root_of directory (path_seen p)) + length p.base.now + length p.directory.now + length p.name.now + 3
    ≤ path_room s directory h
parts_few s directory h file p is = by (rw (← is) at (parts_have_room s (Some h) file)) where
  by : PartsWithin (text_room s (Some h)) (path_apart p)
      → length (root_of directory (path_seen p)) + length p.base.now + length p.directory.now + length p.name.now + 3
      ≤ path_room s directory h
  by few = omega (arith, root_len directory (path_seen p), few.base, few.directory, few.name)

pub text_few : (s : Strings) (directory : Option (List ℕ)) (h : HeaderData) (file : ℕ) (p : Path) (text : List ℕ)
    → option_map path_apart (Some p) ≡ file_parts s (Some h) file
    → text ≡ folder (root_of directory (path_seen p)) ++ path_seen p → length text ≤ path_room s directory h
text_few s directory h file p text apart is =
    let root = root_of directory (path_seen p) in
    omega (
      arith,
      parts_few s directory h file p apart,
      ap length (is ∙ sym (text_is root p)),
      length-append ((folder root ++ folder p.base.now) ++ folder p.directory.now) p.name.now,
      length-append (folder root ++ folder p.base.now) (folder p.directory.now),
      length-append (folder root) (folder p.base.now),
      folder_len root,
      folder_len p.base.now,
      folder_len p.directory.now,
    )
