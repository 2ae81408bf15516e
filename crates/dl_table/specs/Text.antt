-- Texts in a string section. DWARF 5, section 7.5.5, class string.
use Rattle.std.specs.Prelude.{ℕ, List, [], ◌∷◌, drop, Option, Some, None, option_map, ◌==◌, if◌then◌else◌}

-- the bytes up to the next zero byte
abbrev pub text_in : List ℕ → Option (List ℕ)
text_in [] = None
text_in (b ∷ w) = if b == 0 then Some [] else option_map (λ text. b ∷ text) (text_in w)

-- the text at an offset of a section
abbrev pub text_at : List ℕ → ℕ → Option (List ℕ)
text_at section offset = text_in (drop offset section)
