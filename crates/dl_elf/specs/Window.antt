-- What a window shows of a file. No promise rests on how this is said.
use Rattle.std.specs.Prelude.{◌≡◌, ℕ, ◌+◌, ◌-◌, ◌≤◌, List, take, drop, Option}
use Rattle.dl_elf.specs.declared.window.Window.{Window}
use Rattle.dl_elf.specs.Source.{ForBytes}

-- it holds the bytes of the file from its start on, where they are known
abbrev pub Shows : Option (List ℕ) → Window → Type 0
Shows known w = ForBytes known (λ f. take w.filled w.buffer ≡ take w.filled (drop w.start f))

-- as many of them as it has room for
abbrev pub IsFull : Option (List ℕ) → Window → Type 0
IsFull known w = ForBytes known (λ f. take w.filled w.buffer ≡ take 16384 (drop w.start f))

-- it holds this many bytes from the offset on
abbrev pub Has : Window → (offset len : ℕ) → Type 0
Has w offset len = (w.start ≤ offset) × (offset - w.start + len ≤ w.filled)

-- these bytes
abbrev pub shown : Window → (offset len : ℕ) → List ℕ
shown w offset len = take len (drop (offset - w.start) w.buffer)
