-- What a relocation does to the bytes at its place. ABI supplements, "Relocation Types". S + A is the sum of its
-- symbol's value and its addend.
use Rattle.std.specs.Prelude.{ℕ, ◌+◌, ◌-◌, ◌*◌, ◌/◌, ◌%◌, ◌^◌}
use Rattle.dl_reloc.specs.declared.change.Width.{Width}
use Rattle.dl_reloc.specs.declared.change.Width.TheVariants.{Bits8, Bits16, Bits24, Bits32, Bits64}
use Rattle.dl_reloc.specs.declared.change.Change.{Change}
use Rattle.dl_reloc.specs.declared.change.Change.TheVariants.{Nothing, Set, Add, Subtract, SetSix, SubtractSix}

-- how many bytes they are
abbrev pub width_bytes : Width → ℕ
width_bytes Bits8 = 1
width_bytes Bits16 = 2
width_bytes Bits24 = 3
width_bytes Bits32 = 4
width_bytes Bits64 = 8

-- how many bytes are changed
abbrev pub change_size : Change → ℕ
change_size Nothing = 0
change_size (Set width) = width_bytes width
change_size (Add width) = width_bytes width
change_size (Subtract width) = width_bytes width
change_size SetSix = 1
change_size SubtractSix = 1

-- the number whose lowest bytes are written. v: what stands at the place; x: S + A modulo 2^64
abbrev pub changed : Change → (v x : ℕ) → ℕ
changed Nothing v x = v
changed (Set width) v x = x
changed (Add width) v x = (v + x) % 2 ^ 64
changed (Subtract width) v x = (v + (2 ^ 64 - x)) % 2 ^ 64
changed SetSix v x = v / 64 * 64 + x % 64
changed SubtractSix v x = v / 64 * 64 + (v + (2 ^ 64 - x)) % 2 ^ 64 % 64
