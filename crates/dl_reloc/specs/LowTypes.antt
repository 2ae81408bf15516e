-- The types of relocations with the lowest numbers, as a list, and one that sets 64 bits. No promise rests on this file.
use Rattle.std.specs.Prelude.{◌≡◌, ℕ, ◌<◌, List, Option, None, Some, IfSome, slice_index_or}
use Rattle.dl_reloc.specs.declared.target.Target.{Target}
use Rattle.dl_reloc.specs.declared.change.Change.{Change}
use Rattle.dl_reloc.specs.declared.change.Change.TheVariants.{Set}
use Rattle.dl_reloc.specs.declared.change.Width.TheVariants.{Bits64}
use Rattle.dl_reloc.specs.Types.{change_of}

-- each of the first 64 is what the type of its number does
abbrev pub AreLow : Target → List (Option Change) → Type 0
AreLow t low = (k : ℕ) → k < 64 → slice_index_or low k None ≡ change_of t k

-- where there is a type, it sets 64 bits
abbrev pub IsLong : Target → Option ℕ → Type 0
IsLong t long = IfSome long (λ n. change_of t n ≡ Some (Set Bits64))
