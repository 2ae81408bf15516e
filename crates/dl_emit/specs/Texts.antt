-- Texts that a table can have. No promise rests on this file.
use Rattle.std.specs.Prelude.{◌≡◌, ℕ, List, true, not, ◌==◌}
use Rattle.std.specs.List.{list_all}

-- none of the bytes is zero
abbrev pub IsText : List ℕ → Type 0
IsText w = list_all (λ b. not (b == 0)) w ≡ true
