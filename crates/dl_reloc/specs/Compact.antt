-- Sections of compact relocations (SHT_CREL), whose entries are written as differences from the one before, in LEB128
-- (DWARF 5, section 7.6). Generic ABI, "Compact relocations", as LLVM writes them. b: bytes; e: the entry before.
use Rattle.std.specs.Prelude.{ℕ, zero, suc, ◌+◌, ◌*◌, ◌/◌, ◌%◌, ◌^◌, ◌==◌, ◌&&◌, nat_lt, ℤ, pos, negsuc, Bool, true}
use Rattle.std.specs.Prelude.{false, if◌then◌else◌, List, [], ◌∷◌, Option, Some, None, option_map, option_and_then}
use Rattle.std.specs.Prelude.{unwrap_or, Result, Ok, Err}
use Rattle.std.specs.Int.{w64, cast_unsigned}
use Rattle.dl_num.specs.Leb.{groups, signed_groups}
use Rattle.dl_num.specs.LebFront.{is_leb, leb_front, after_leb}
use Rattle.dl_reloc.specs.declared.target.Class.{Class}
use Rattle.dl_reloc.specs.declared.target.Class.TheVariants.{Bits32, Bits64}
use Rattle.dl_reloc.specs.declared.target.Target.{Target}
use Rattle.dl_reloc.specs.declared.entry.Relocation.{Relocation}
use Rattle.dl_reloc.specs.declared.compact.CompactHeader.{CompactHeader}
use Rattle.dl_reloc.specs.declared.apply.RelocationFault.{RelocationFault}
use Rattle.dl_reloc.specs.declared.apply.RelocationFault.TheVariants.{Damaged}
use Rattle.dl_reloc.specs.Entries.{extended}
use Rattle.dl_reloc.specs.Relocated.{applied, and_then}

-- ---- numbers at the front of bytes

-- the unsigned number that b begins with; None where b ends before it does, or it isn't below end
abbrev pub unsigned_front : (end : ℕ) → List ℕ → Option ℕ
unsigned_front end b = let w = leb_front b in
    if is_leb w && nat_lt (groups w) end then Some (groups w) else None

abbrev pub last_byte : List ℕ → ℕ
last_byte [] = 0
last_byte (b ∷ []) = b
last_byte (b ∷ c ∷ w) = last_byte (c ∷ w)

-- the signed number that w spells
abbrev pub signed_number : List ℕ → ℤ
signed_number w = signed_groups w (last_byte w)

-- from -2^63 to 2^63 - 1
abbrev pub fits_signed : ℤ → Bool
fits_signed (pos n) = nat_lt n (2 ^ 63)
fits_signed (negsuc n) = nat_lt n (2 ^ 63)

-- a number of an entry, and the bytes after its field
pub record Told : Type 0 where
  pub number : ℕ
  pub rest : List ℕ

-- the sum of the number of the entry before and the signed difference that b begins with, modulo 2^64; without the
-- flag b begins with none, and it is that number. None where b ends before the difference does, or it doesn't fit
-- 64 bits
abbrev pub after_difference : (flag : Bool) → (before : ℕ) → List ℕ → Option Told
after_difference false before b = Some (record { number = before; rest = b })
after_difference true before b = let i = signed_number (leb_front b) in
    if is_leb (leb_front b) && fits_signed i
    then Some (record { number = (before + cast_unsigned w64 i) % 2 ^ 64; rest = after_leb b })
    else None

-- ---- the header

-- a number: the lowest two bits are a shift, the next one says that entries have addends, the others count them
abbrev pub header_of : ℕ → CompactHeader
header_of n = record { count = n / 8; has_addends = n / 4 % 2 == 1; shift = n % 4 }

-- ---- an entry: a number of flags and the difference of the offset, and one more difference for each flag that is set

-- how many values the flags have: there are two, or three where there are addends
abbrev pub flag_values : CompactHeader → ℕ
flag_values h = if h.has_addends then 2 ^ 3 else 2 ^ 2

-- the first number: the lowest bits are the flags, the others a difference. It is below 2^71: what follows the
-- seven bits of its first byte fits 64 bits
abbrev pub first_number : List ℕ → Option ℕ
first_number b = unsigned_front (2 ^ 71) b

-- r_offset, in 32 or 64 bits, where its difference before the shift is this
abbrev pub offset_after : Class → CompactHeader → Relocation → (difference : ℕ) → ℕ
offset_after Bits32 h e difference = (e.offset + difference * 2 ^ h.shift) % 2 ^ 32
offset_after Bits64 h e difference = (e.offset + difference * 2 ^ h.shift) % 2 ^ 64

-- r_addend, modulo 2^64: one of 32 bits is signed
abbrev pub addend_of : Class → ℕ → ℕ
addend_of Bits32 n = extended (n % 2 ^ 32)
addend_of Bits64 n = n

-- an entry, and the bytes after it
pub record Next : Type 0 where
  pub entry : Relocation
  pub rest : List ℕ

-- the entry of these numbers: the symbol and the type have 32 bits; without addends these stand at the places
abbrev pub entry_of : Class → CompactHeader → (offset symbol number : ℕ) → Told → Next
entry_of class h offset symbol number addend = record {
  entry = record {
    offset = offset;
    symbol = symbol % 2 ^ 32;
    number = number % 2 ^ 32;
    addend = if h.has_addends then Some (addend_of class addend.number) else None;
  };
  rest = addend.rest;
}

-- what b has after the first number: the symbol where bit 0 of that is set, the type where bit 1 is, and the addend
-- where bit 2 is and there are addends
abbrev pub next_by : Class → CompactHeader → Relocation → (offset flags : ℕ) → List ℕ → Option Next
next_by class h e offset flags b = option_and_then (λ symbol. option_and_then (λ number.
    option_map (entry_of class h offset symbol.number number.number)
    (after_difference (flags / 4 == 1) (unwrap_or e.addend 0) number.rest))
    (after_difference (flags / 2 % 2 == 1) e.number symbol.rest))
    (after_difference (flags % 2 == 1) e.symbol b)

-- the entry that b begins with; None where b ends before it does, or a number of it doesn't fit
abbrev pub next_entry : Class → CompactHeader → Relocation → List ℕ → Option Next
next_entry class h e b = option_and_then
    (λ n. next_by class h e (offset_after class h e (n / flag_values h)) (n % flag_values h) (after_leb b))
    (first_number b)

-- what stands before the first entry: all numbers are 0
abbrev pub before_all : CompactHeader → Relocation
before_all h =
    record { offset = 0; symbol = 0; number = 0; addend = if h.has_addends then Some 0 else None }

-- ---- a section

-- the entries that a section has, and whether they are all that its header counts
pub record Compact : Type 0 where
  pub entries : List Relocation
  pub whole : Bool

abbrev pub with_entry : Relocation → Compact → Compact
with_entry e c = record { entries = e ∷ c.entries; whole = c.whole }

-- n entries, the first of which is told by its differences from e
abbrev pub compact_after : Class → CompactHeader → Relocation → (n : ℕ) → List ℕ → Compact
compact_after class h e zero b = record { entries = []; whole = true }
compact_after class h e (suc n) b = elim (next_entry class h e b) [
  | Some next ↦ with_entry next.entry (compact_after class h next.entry n next.rest)
  | None ↦ record { entries = []; whole = false }
]

abbrev pub compact_with : Class → List ℕ → Option ℕ → Compact
compact_with class b None = record { entries = []; whole = false }
compact_with class b (Some n) =
    let h = header_of n in compact_after class h (before_all h) h.count (after_leb b)

-- the entries of a section with these bytes; what follows the last of them belongs to none
abbrev pub compact_entries : Class → List ℕ → Compact
compact_entries class b = compact_with class b (unsigned_front (2 ^ 64) b)

-- ---- applied to the bytes of another section

-- what entries make of b, one after the other, or the first fault
abbrev pub applied_all : Target → (symbols : List ℕ) → List Relocation → List ℕ → Result (List ℕ) RelocationFault
applied_all t symbols [] b = Ok b
applied_all t symbols (e ∷ es) b = and_then (applied_all t symbols es) (applied t symbols e b)

-- a section that ends before its entries do has a fault after them
abbrev pub if_whole : Bool → List ℕ → Result (List ℕ) RelocationFault
if_whole whole b = if whole then Ok b else Err Damaged

abbrev pub made_by : Target → (symbols : List ℕ) → Compact → List ℕ → Result (List ℕ) RelocationFault
made_by t symbols c b = and_then (if_whole c.whole) (applied_all t symbols c.entries b)

-- what a section of compact relocations makes of b
abbrev pub relocated_compact : Target → (section symbols : List ℕ) → List ℕ → Result (List ℕ) RelocationFault
relocated_compact t section symbols b = made_by t symbols (compact_entries t.class section) b
