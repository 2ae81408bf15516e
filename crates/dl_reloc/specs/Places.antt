-- The places that relocations change, and the sections of their symbols. System V ABI, chapter 4, "Symbol Table" and
-- "Relocation". table: the bytes of a symbol table; wide: those of the section with the numbers of sections that don't
-- fit its symbols (SHT_SYMTAB_SHNDX), none where there is no such section.
use Rattle.std.specs.Prelude.{ℕ, zero, suc, ◌==◌, nat_lt, if◌then◌else◌, List, [], ◌∷◌, ◌++◌, Option, Some, None}
use Rattle.dl_num.specs.declared.fixed.Order.{Order}
use Rattle.dl_reloc.specs.declared.target.Class.{Class}
use Rattle.dl_reloc.specs.declared.target.Class.TheVariants.{Bits32, Bits64}
use Rattle.dl_reloc.specs.declared.target.AddendPlace.{AddendPlace}
use Rattle.dl_reloc.specs.declared.target.Target.{Target}
use Rattle.dl_reloc.specs.declared.entry.Relocation.{Relocation}
use Rattle.dl_reloc.specs.declared.change.Change.{Change}
use Rattle.dl_reloc.specs.declared.placed.Placed.{Placed}
use Rattle.dl_reloc.specs.Changes.{change_size}
use Rattle.dl_reloc.specs.Types.{change_of}
use Rattle.dl_reloc.specs.Entries.{count, item, number_at, entry_size, symbol_size}
use Rattle.dl_reloc.specs.Relocated.{entry_at}
use Rattle.dl_reloc.specs.Compact.{compact_entries}

-- ---- the section of a symbol

-- st_shndx
abbrev pub index_in : Class → Order → List ℕ → ℕ
index_in Bits32 order b = number_at order 14 2 b
index_in Bits64 order b = number_at order 6 2 b

-- the number of four bytes for symbol i; 0 where there is none
abbrev pub wide_index : Order → (wide : List ℕ) → (i : ℕ) → ℕ
wide_index order wide i = if nat_lt i (count 4 wide) then number_at order 0 4 (item 4 i wide) else 0

-- where st_shndx of symbol i is n: SHN_XINDEX (0xffff) says that the number stands in the other section, and the others
-- from SHN_LORESERVE (0xff00) on are no section's
abbrev pub section_by : Order → (wide : List ℕ) → (i n : ℕ) → ℕ
section_by order wide i n = if n == 0xffff then wide_index order wide i else if nat_lt n 0xff00 then n else 0

-- the number of the section that symbol i is defined in; 0 where that is no section, or there is no symbol i
abbrev pub section_of : Class → Order → (table wide : List ℕ) → (i : ℕ) → ℕ
section_of class order table wide i =
    if i == 0 then 0
    else if nat_lt i (count (symbol_size class) table)
    then section_by order wide i (index_in class order (item (symbol_size class) i table)) else 0

-- ---- the place of an entry

abbrev pub places_by : Target → Relocation → (table wide : List ℕ) → Option Change → List Placed
places_by t e table wide None = []
places_by t e table wide (Some change) =
    if change_size change == 0 then []
    else record { offset = e.offset; section = section_of t.class t.order table wide e.symbol } ∷ []

-- the one that an entry changes; none where its type changes nothing, or isn't known
abbrev pub places_of : Target → Relocation → (table wide : List ℕ) → List Placed
places_of t e table wide = places_by t e table wide (change_of t e.number)

-- ---- those of a section of relocations, in order

-- of its first n entries
abbrev pub placed_upto : Target → AddendPlace → (entries table wide : List ℕ) → ℕ → List Placed
placed_upto t form entries table wide zero = []
placed_upto t form entries table wide (suc n) =
    placed_upto t form entries table wide n ++ places_of t (entry_at t form entries n) table wide

-- of all whole entries
abbrev pub placed : Target → AddendPlace → (entries table wide : List ℕ) → List Placed
placed t form entries table wide =
    placed_upto t form entries table wide (count (entry_size t.class form) entries)

-- of these entries
abbrev pub placed_all : Target → List Relocation → (table wide : List ℕ) → List Placed
placed_all t [] table wide = []
placed_all t (e ∷ es) table wide = places_of t e table wide ++ placed_all t es table wide

-- of a section of compact relocations
abbrev pub placed_compact : Target → (section table wide : List ℕ) → List Placed
placed_compact t section table wide = placed_all t (compact_entries t.class section).entries table wide
