-- What relocations make of the bytes of a section. System V ABI, chapter 4, "Relocation". b: the bytes; symbols: the
-- values of the symbols.
use Rattle.std.specs.Prelude.{◌≡◌, ℕ, zero, suc, ◌+◌, ◌*◌, ◌%◌, ◌^◌, ◌==◌, not, nat_le, if◌then◌else◌, List, ◌++◌}
use Rattle.std.specs.Prelude.{length, take, drop, Option, Some, None, unwrap_or, Result, Ok, Err}
use Rattle.dl_num.specs.declared.fixed.Order.{Order}
use Rattle.dl_num.specs.Fixed.{fixed, fixed_bytes}
use Rattle.dl_reloc.specs.declared.target.AddendPlace.{AddendPlace}
use Rattle.dl_reloc.specs.declared.target.Target.{Target}
use Rattle.dl_reloc.specs.declared.entry.Relocation.{Relocation}
use Rattle.dl_reloc.specs.declared.change.Change.{Change}
use Rattle.dl_reloc.specs.declared.apply.RelocationFault.{RelocationFault}
use Rattle.dl_reloc.specs.declared.apply.RelocationFault.TheVariants.{UnknownType, PlaceOutside, SymbolOutside}
use Rattle.dl_reloc.specs.Changes.{change_size, changed}
use Rattle.dl_reloc.specs.Types.{change_of}
use Rattle.dl_reloc.specs.Entries.{count, item, entry_size, entry_in, symbol_value}

-- the bytes `place` after a change by a symbol of this value; the addend is what stands there where the entry has none
abbrev pub place_changed : Order → Change → (value : ℕ) (addend : Option ℕ) (place : List ℕ) → List ℕ
place_changed order change value addend place = let v = fixed order place in
    fixed_bytes order (change_size change) (changed change v ((value + unwrap_or addend v) % 2 ^ 64))

-- b with the bytes of the change from `at` on changed
abbrev pub bytes_changed : Order → Change → (at value : ℕ) (addend : Option ℕ) → List ℕ → List ℕ
bytes_changed order change at value addend b = let size = change_size change in
    take at b ++ (place_changed order change value addend (take size (drop at b)) ++ drop size (drop at b))

abbrev pub by_symbol : Order → Change → Relocation → List ℕ → Option ℕ → Result (List ℕ) RelocationFault
by_symbol order change e b None = Err SymbolOutside
by_symbol order change e b (Some value) = Ok (bytes_changed order change e.offset value e.addend b)

-- an entry that does this; where it changes nothing, neither its place nor its symbol is asked for
abbrev pub by_change : Target → (symbols : List ℕ) → Relocation → List ℕ → Option Change → Result (List ℕ) RelocationFault
by_change t symbols e b None = Err (UnknownType e.number)
by_change t symbols e b (Some change) =
    if change_size change == 0 then Ok b
    else if not (nat_le (e.offset + change_size change) (length b)) then Err PlaceOutside
    else by_symbol t.order change e b (symbol_value symbols e.symbol)

-- what one entry makes of b, or its fault
abbrev pub applied : Target → (symbols : List ℕ) → Relocation → List ℕ → Result (List ℕ) RelocationFault
applied t symbols e b = by_change t symbols e b (change_of t e.number)

-- the next entry after those before it; after a fault nothing follows
abbrev pub and_then : (List ℕ → Result (List ℕ) RelocationFault) → Result (List ℕ) RelocationFault
    → Result (List ℕ) RelocationFault
and_then next (Ok b) = next b
and_then next (Err fault) = Err fault

-- entry i of a relocation section
abbrev pub entry_at : Target → AddendPlace → (entries : List ℕ) → ℕ → Relocation
entry_at t form entries i = entry_in t form (item (entry_size t.class form) i entries)

-- what the first n entries make of b, one after the other, or the first fault
abbrev pub applied_upto : Target → AddendPlace → (entries symbols : List ℕ) → ℕ → List ℕ → Result (List ℕ) RelocationFault
applied_upto t form entries symbols zero b = Ok b
applied_upto t form entries symbols (suc n) b =
    and_then (applied t symbols (entry_at t form entries n)) (applied_upto t form entries symbols n b)

-- what all whole entries make of it
abbrev pub relocated : Target → AddendPlace → (entries symbols : List ℕ) → List ℕ → Result (List ℕ) RelocationFault
relocated t form entries symbols b =
    applied_upto t form entries symbols (count (entry_size t.class form) entries) b

-- whole entries, with nothing after them
abbrev pub AreWhole : Target → AddendPlace → (entries : List ℕ) → Type 0
AreWhole t form entries = (n : ℕ) × (length entries ≡ n * entry_size t.class form)
