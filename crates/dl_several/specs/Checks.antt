-- What is done with paths, one after the other. goes: what is said of one path, of the states before and behind it of
-- what does it, and of a status. old, new: such states.
use Rattle.std.specs.Prelude.{◌≡◌, ℕ, List, [], ◌∷◌, max}

-- the greatest status; 0 where there is none
abbrev pub worst : (statuses : List ℕ) → ℕ
worst [] = 0
worst (status ∷ statuses) = max status (worst statuses)

module _ {T : Type 0} (goes : T → List ℕ → ℕ → T → Type 0) where
  -- it is done with each of these paths once, in their order, with these statuses
  abbrev pub Steps : (paths : List (List ℕ)) (statuses : List ℕ) (old new : T) → Type 0
  Steps [] [] old new = new ≡ old
  Steps (path ∷ paths) (status ∷ statuses) old new =
      (between : T) × goes old path status between × Steps paths statuses between new
  Steps paths statuses old new = ⊥

  -- it is, and this is the worst status
  abbrev pub IsWorst : (paths : List (List ℕ)) (status : ℕ) (old new : T) → Type 0
  IsWorst paths status old new = (statuses : List ℕ) × Steps paths statuses old new × (status ≡ worst statuses)
