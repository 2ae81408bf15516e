-- Texts that are printed front after front. No promise rests on this file.
use Rattle.std.specs.Prelude.{ℕ, ◌||◌, nat_le, ◌==◌, if◌then◌else◌, List, [], ◌∷◌, codes}
use Rattle.dl_path.specs.Shown.{is_control, numbered}

-- one byte by itself, and more as they stand
abbrev pub front_text : (one : ℕ → List ℕ) → List ℕ → List ℕ
front_text one [] = []
front_text one (b ∷ []) = one b
front_text one (b ∷ c ∷ front) = b ∷ c ∷ front

-- a character of one byte, or a byte that is part of none
abbrev pub shown_byte : ℕ → List ℕ
shown_byte b =
    if b == 0x5c then codes "\\\\" else if is_control b || nat_le 0x80 b then numbered b else b ∷ []
