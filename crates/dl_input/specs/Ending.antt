-- When the bytes of a reader are over.
use Rattle.std.specs.Prelude.{◌≡◌, ◌<◌, ℕ, List, length, Result, IfOk}

-- a read that gave no bytes, though there was room, says so. over: what is known of the reader then
abbrev pub Ends : {R E : Type 0} → (over : R → Type 0) → (buffer : List ℕ) → (new : R) → Result ℕ E → Type 0
Ends over buffer new result = IfOk result (λ n. n ≡ 0 → 0 < length buffer → over new)
