-- Entries of relocations, and the values of symbols. System V ABI, chapter 4, "Relocation" and "Symbol Table".
use Rattle.std.specs.Prelude.{◌≡◌, ℕ, zero, suc, ◌+◌, ◌*◌, ◌/◌, ◌%◌, ◌^◌, ◌==◌, nat_lt, if◌then◌else◌, List, [], ◌∷◌}
use Rattle.std.specs.Prelude.{◌++◌, length, take, drop, slice_get, Option, Some, None}
use Rattle.dl_num.specs.declared.fixed.Order.{Order}
use Rattle.dl_num.specs.declared.fixed.Order.TheVariants.{Big}
use Rattle.dl_num.specs.Fixed.{fixed}
use Rattle.dl_reloc.specs.declared.target.Class.{Class}
use Rattle.dl_reloc.specs.declared.target.Class.TheVariants.{Bits32, Bits64}
use Rattle.dl_reloc.specs.declared.target.AddendPlace.{AddendPlace}
use Rattle.dl_reloc.specs.declared.target.AddendPlace.TheVariants.{Rela, Rel}
use Rattle.dl_reloc.specs.declared.target.Target.{Target}
use Rattle.dl_reloc.specs.declared.entry.Relocation.{Relocation}

-- the number that `size` bytes spell from `at` on
abbrev pub number_at : Order → (at size : ℕ) → List ℕ → ℕ
number_at order at size b = fixed order (take size (drop at b))

-- how many whole items a table has; what follows the last of them belongs to none
abbrev pub count : (size : ℕ) → List ℕ → ℕ
count size table = length table / size

-- the bytes of item i of a table
abbrev pub item : (size i : ℕ) → List ℕ → List ℕ
item size i table = take size (drop (i * size) table)

-- ---- entries

-- how many bytes an entry has
abbrev pub entry_size : Class → AddendPlace → ℕ
entry_size Bits32 Rel = 8
entry_size Bits32 Rela = 12
entry_size Bits64 Rel = 16
entry_size Bits64 Rela = 24

-- a signed number of 32 bits, modulo 2^64
abbrev pub extended : ℕ → ℕ
extended n = if nat_lt n 0x80000000 then n else (n + 0xffffffff00000000) % 2 ^ 64

-- r_addend, modulo 2^64; an entry of REL has none
abbrev pub addend_in : Class → AddendPlace → Order → List ℕ → Option ℕ
addend_in class Rel order b = None
addend_in Bits32 Rela order b = Some (extended (number_at order 8 4 b))
addend_in Bits64 Rela order b = Some (number_at order 16 8 b)

-- r_offset
abbrev pub offset_in : Class → Order → List ℕ → ℕ
offset_in Bits32 order b = number_at order 0 4 b
offset_in Bits64 order b = number_at order 0 8 b

-- the number of the symbol: the upper 24 or 32 bits of r_info. In a 64-bit file of MIPS (machine 8) r_info is a number of
-- four bytes, the symbol (r_sym), and four bytes of their own, r_ssym, r_type3, r_type2 and r_type. 64-bit ELF Object
-- File Specification (MIPS), "Relocation"
abbrev pub symbol_in : Class → (machine : ℕ) → Order → List ℕ → ℕ
symbol_in Bits32 machine order b = number_at order 4 4 b / 2 ^ 8
symbol_in Bits64 machine order b = if machine == 8 then number_at order 8 4 b else number_at order 8 8 b / 2 ^ 32

-- the type: the lower 8 or 32 bits of r_info. The three types of such an entry of MIPS are one number here, of which
-- r_type is the lowest byte and r_type3 the highest, in either order
abbrev pub type_in : Class → (machine : ℕ) → Order → List ℕ → ℕ
type_in Bits32 machine order b = number_at order 4 4 b % 2 ^ 8
type_in Bits64 machine order b =
    if machine == 8 then number_at Big 12 4 b % 2 ^ 24 else number_at order 8 8 b % 2 ^ 32

abbrev pub entry_in : Target → AddendPlace → List ℕ → Relocation
entry_in t form b = record {
  offset = offset_in t.class t.order b;
  symbol = symbol_in t.class t.machine t.order b;
  number = type_in t.class t.machine t.order b;
  addend = addend_in t.class form t.order b;
}

-- ---- symbols

-- how many bytes a symbol has
abbrev pub symbol_size : Class → ℕ
symbol_size Bits32 = 16
symbol_size Bits64 = 24

-- st_value
abbrev pub value_in : Class → Order → List ℕ → ℕ
value_in Bits32 order b = number_at order 4 4 b
value_in Bits64 order b = number_at order 8 8 b

-- the values of the first n symbols of a table
abbrev pub values_upto : Class → Order → (table : List ℕ) → ℕ → List ℕ
values_upto class order table zero = []
values_upto class order table (suc n) =
    values_upto class order table n ++ value_in class order (item (symbol_size class) n table) ∷ []

-- the values of all its symbols; what follows the last whole one belongs to none
abbrev pub symbol_values : Class → Order → (table : List ℕ) → List ℕ
symbol_values class order table = values_upto class order table (count (symbol_size class) table)

-- the value of symbol i where the symbols have these; that of number 0 (STN_UNDEF) is 0; None where there is no
-- symbol i
abbrev pub symbol_value : (values : List ℕ) → ℕ → Option ℕ
symbol_value values i = if i == 0 then Some 0 else slice_get values i

-- whole symbols, with nothing after them
abbrev pub AreWholeSymbols : Class → (table : List ℕ) → Type 0
AreWholeSymbols class table = (n : ℕ) × (length table ≡ n * symbol_size class)
