-- What was written is held, or memory was refused for it. refuses: for how many items memory is refused. v: what was written.
use Rattle.std.specs.Prelude.{◌≡◌, ℕ, Bool, true, false, List, length}
use Rattle.dl_memory.specs.Refusals.{IsRefused}

-- Memory was refused for some list of no more items than v has. That it was is said, and not of how many.
abbrev pub CannotHold : (refuses : ℕ → Type 0) (v : List ℕ) → Type 0
CannotHold refuses v = ∥ IsRefused refuses (length v) ∥₁

-- of v, these bytes are held; refused: memory was refused
abbrev pub AreHeld : (refuses : ℕ → Type 0) (bytes : List ℕ) (refused : Bool) (v : List ℕ) → Type 0
AreHeld refuses bytes true v = IsRefused refuses (length v)
AreHeld refuses bytes false v = v ≡ bytes
