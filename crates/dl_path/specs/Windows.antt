-- Whether a path in a directory is a whole path of Windows. No promise rests on this file.
use Rattle.std.specs.Prelude.{ℕ, Bool, false, ◌||◌, ◌&&◌, ◌==◌, List, [], ◌∷◌}
use Rattle.dl_path.specs.Paths.{is_letter, is_of_windows}

-- a letter and a colon
abbrev pub is_bare_drive : List ℕ → Bool
is_bare_drive [] = false
is_bare_drive (letter ∷ []) = false
is_bare_drive (letter ∷ colon ∷ []) = is_letter letter && (colon == 0x3a)
is_bare_drive (letter ∷ colon ∷ more ∷ directory) = false

abbrev pub begins_in_windows : (directory : List ℕ) → Bool
begins_in_windows directory = is_of_windows directory || is_bare_drive directory
