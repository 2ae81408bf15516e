-- A text as it stands in a location, the bytes that stand for themselves, and the last component of a path.
use Rattle.std.specs.Prelude.{ℕ, zero, suc, ◌-◌, ◌/◌, Bool, ◌||◌, ◌&&◌, not, nat_le, nat_lt, ◌==◌, if◌then◌else◌, List, []}
use Rattle.std.specs.Prelude.{◌∷◌, ◌++◌, take, codes}
use Rattle.std.specs.List.{list_any}
use Rattle.std.specs.Str.{is_utf8}
use Rattle.dl_print.specs.Digits.{last_digit}
use Rattle.dl_path.specs.Paths.{is_of_windows, is_slash}

-- the bytes that print nothing: those below 0x20, and 0x7f
abbrev pub is_control : ℕ → Bool
is_control b = nat_lt b 0x20 || (b == 0x7f)

-- a byte by its number
abbrev pub numbered : ℕ → List ℕ
numbered b = codes "\\x" ++ last_digit (b / 16) ∷ last_digit b ∷ []

-- how many bytes the character has that a text begins with in UTF-8; 0 where it begins with none
abbrev pub character_len : List ℕ → ℕ
character_len text =
    if is_utf8 (take 1 text) then 1 else if is_utf8 (take 2 text) then 2 else
    if is_utf8 (take 3 text) then 3 else if is_utf8 (take 4 text) then 4 else 0

-- the first byte of a character of len bytes, or one that is part of none
abbrev pub shown_first : (len : ℕ) → ℕ → List ℕ
shown_first zero b = numbered b
shown_first (suc zero) b = if b == 0x5c then codes "\\\\" else if is_control b then numbered b else b ∷ []
shown_first (suc (suc more)) b = b ∷ []

-- left: how many bytes are left of a character that has begun
abbrev pub shown_after : (left : ℕ) → List ℕ → List ℕ
shown_after left [] = []
shown_after zero (b ∷ path) =
    shown_first (character_len (b ∷ path)) b ++ shown_after (character_len (b ∷ path) - 1) path
shown_after (suc left) (b ∷ path) = b ∷ shown_after left path

-- a backslash as two, control bytes and what isn't UTF-8 by their numbers
abbrev pub shown : List ℕ → List ℕ
shown path = shown_after 0 path

-- a byte that stands for itself in a JSON string
abbrev pub stands : ℕ → Bool
stands b = nat_le 0x20 b && not ((b == 0x22) || (b == 0x5c))

-- a byte of ASCII that stands for itself, in a location too
abbrev pub is_plain : ℕ → Bool
is_plain b = stands b && nat_lt b 0x7f

-- what stands after the last separator; all of it where there is none
abbrev pub after_the_last : (is_separator : ℕ → Bool) → List ℕ → List ℕ
after_the_last is_separator [] = []
after_the_last is_separator (b ∷ path) =
    if list_any is_separator (b ∷ path) then after_the_last is_separator path else b ∷ path

-- a slash; in a whole path of Windows a backslash too
abbrev pub separates : (of_windows : Bool) → ℕ → Bool
separates of_windows b = (b == 0x2f) || (of_windows && is_slash b)

-- the last component
abbrev pub basename : List ℕ → List ℕ
basename path = after_the_last (separates (is_of_windows path)) path
