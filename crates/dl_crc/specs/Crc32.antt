-- CRC-32, bit by bit. ISO 3309; ITU-T V.42, section 8.1.1.6.2; RFC 1952, section 8.
use Rattle.std.specs.Prelude.{ℕ, zero, suc, ◌/◌, ◌%◌, ◌==◌, if◌then◌else◌, List, [], ◌∷◌, bit_xor}

-- the least bit is shifted out; where it is 1, the polynomial is added, of which the highest power is the least bit
abbrev pub shifted : ℕ → ℕ
shifted c = bit_xor (c / 2) (if c % 2 == 1 then 0xedb88320 else 0)

-- k bits
abbrev pub shifts : ℕ → ℕ → ℕ
shifts zero c = c
shifts (suc k) c = shifts k (shifted c)

-- the register with the next byte
unfoldable pub with_byte : ℕ → ℕ → ℕ
with_byte c byte = shifts 8 (bit_xor c byte)

-- the register with the next bytes
abbrev pub with_bytes : ℕ → List ℕ → ℕ
with_bytes c [] = c
with_bytes c (byte ∷ bytes) = with_bytes (with_byte c byte) bytes

-- all 32 bits turned over
abbrev pub turned_over : ℕ → ℕ
turned_over c = bit_xor c 0xffffffff

-- the check value of some bytes, with the next ones
abbrev pub updated : ℕ → List ℕ → ℕ
updated crc bytes = turned_over (with_bytes (turned_over crc) bytes)

abbrev pub crc_32 : List ℕ → ℕ
crc_32 bytes = updated 0 bytes
