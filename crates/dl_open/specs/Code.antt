-- Where a file has code: in a linked file that has executable sections in these, in others everywhere. f: the bytes of a
-- file.
use Rattle.std.specs.Prelude.{◌≡◌, ◌≢◌, ◌⊎◌, ℕ, Bool, true, false, ◌||◌, not, List, [], map, length, ◌==◌}
use Rattle.std.specs.Prelude.{if◌then◌else◌, Option, Ok, Err}
use Rattle.std.specs.List.{list_any}
use Rattle.std.specs.Option.{option_map_or}
use Rattle.std.specs.declared.io.Error.{Error}
use Rattle.dl_elf.specs.declared.fault.ElfFault.TheVariants.{Read}
use Rattle.dl_memory.specs.Refusals.{IsRefused}
use Rattle.dl_file.specs.Code.{IsCode, RangesRefused}
use Rattle.dl_file.specs.declared.code.Code.{Code}
use Rattle.dl_file.specs.declared.code.CodeFault.TheVariants as code_fault
use Rattle.dl_file.specs.declared.code.ExecutableRange.{ExecutableRange}
use Rattle.dl_look.specs.declared.code_ranges.AddressRange.{AddressRange}
use Rattle.dl_look.specs.declared.code_ranges.CodeRanges.{CodeRanges}
use Rattle.dl_look.specs.CodeRanges.{has_code}
use Rattle.dl_look.specs.Ranges.{is_in}
use Rattle.dl_open.specs.declared.fault.FileFault.{FileFault}
use Rattle.dl_open.specs.declared.fault.FileFault.TheVariants.{Open, Elf, NoMemory}

abbrev pub address_range : ExecutableRange → AddressRange
address_range r = record { start = r.start; size = r.size }

-- the ranges of the code of a linked file, in the order of its sections; none of another one
abbrev pub linked_ranges : Code → List AddressRange
linked_ranges code = if code.is_linked then map address_range code.ranges.items else []

-- where there is code: in a linked file that has executable sections in these; in others, or where all are asked for,
-- everywhere
abbrev pub live_by : (all : Bool) → Code → ℕ → Bool
live_by all code a =
    if all || (not code.is_linked || (length code.ranges.items == 0)) then true
    else list_any (is_in a) (map address_range code.ranges.items)

-- these ranges say where there is code; none, that there is code everywhere
abbrev pub AreLive : Option CodeRanges → Code → Type 0
AreLive ranges code = (a : ℕ) → option_map_or (λ (r : CodeRanges). has_code r a) ranges true ≡ live_by false code a

-- why it can't be told where the file has code: also that memory was refused for its ranges. refuses: for how many items
-- memory is refused
abbrev pub RefusesCode : (refuses : ℕ → Type 0) (fails : Error → Type 0) (f : List ℕ) → FileFault → Type 0
RefusesCode refuses fails f (Open error) = fails error
RefusesCode refuses fails f (Elf (Read error)) = fails error
RefusesCode refuses fails f (Elf other) = IsCode f (Err (code_fault.Elf other))
RefusesCode refuses fails f NoMemory =
    (IsCode f (Err code_fault.NoMemory) × RangesRefused refuses f)
    ⊎ ((code : Code) × IsCode f (Ok code) × (code.ranges.items ≢ []) × IsRefused refuses (length code.ranges.items))
RefusesCode refuses fails f other = ⊥
