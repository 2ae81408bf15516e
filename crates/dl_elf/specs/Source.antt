-- What reads at an offset give, where all the bytes are known.
use Rattle.std.specs.Prelude.{◌≡◌, ℕ, ◌+◌, ◌^◌, ◌<◌, ◌≤◌, List, length, take, drop, Bool, nat_le, IsTrue, Option, Some}
use Rattle.std.specs.Prelude.{IfSome, Result, IfOk}
use Rattle.std.specs.declared.io.impls.Cursor.{Cursor}
use Rattle.std.specs.Io.Cursor.{cursor_inner}

-- all the bytes of a cursor's inner value
abbrev pub cursor_bytes : {T : Type 0} → (T → Option (List ℕ)) → Cursor T → Option (List ℕ)
cursor_bytes bytes c = bytes (cursor_inner c)

-- what holds of all the bytes, where they are known and an offset reaches them
abbrev pub ForBytes : Option (List ℕ) → (List ℕ → Type 0) → Type 0
ForBytes known P = (f : List ℕ) → known ≡ Some f → length f < 2 ^ 64 → P f

-- the first n of the bytes from the offset on; none only at their end or with no room
abbrev pub ReadsFrom : {E : Type 0} → Option (List ℕ) → ℕ → Result ℕ E → List ℕ → Type 0
ReadsFrom known offset result buffer = IfSome known (λ f. IfOk result (λ n.
    (take n buffer ≡ take n (drop offset f)) × (n ≡ 0 → 0 < length buffer → length f ≤ offset)))

-- the bytes from the offset on, as many as fit
abbrev pub FillsFrom : {E : Type 0} → Option (List ℕ) → ℕ → Result ℕ E → List ℕ → Type 0
FillsFrom known offset result buffer = ForBytes known (λ f. IfOk result (λ n.
    take n buffer ≡ take (length buffer) (drop offset f)))

-- the bytes from the offset on fill the buffer
abbrev pub FilledFrom : Option (List ℕ) → ℕ → Bool → List ℕ → Type 0
FilledFrom known offset whole buffer = ForBytes known (λ f.
    (whole ≡ nat_le (offset + length buffer) (length f))
    × (IsTrue whole → buffer ≡ take (length buffer) (drop offset f)))
