-- What is left of a program where the sequences of one section of an object file are wanted. DWARF 5, sections 6.2.5.3
-- and 7.22; gABI, "Relocation".
use Rattle.std.specs.Prelude.{ℕ, zero, suc, ◌+◌, ◌-◌, Bool, false, ◌==◌, if◌then◌else◌, List, [], ◌∷◌, ◌++◌, length}
use Rattle.std.specs.Prelude.{Option, Some, None, filter, replicate}
use Rattle.std.specs.List.Sorted.{IsNonDecreasingBy}
use Rattle.dl_num.specs.declared.fixed.Order.{Order}
use Rattle.dl_num.specs.Front.{Standing}
use Rattle.dl_field.specs.declared.params.Params.{Params}
use Rattle.dl_reloc.specs.declared.placed.Placed.{Placed}
use Rattle.dl_rows.specs.Matrix.{is_address}
use Rattle.dl_object.specs.Sequences.{Spelled, Sequences, spelled_in, bytes_of, sequences}

-- places in rising order
abbrev pub Rises : List Placed → Type 0
Rises places = IsNonDecreasingBy (λ p. p.offset) places

-- the place of the operand of the first DW_LNE_set_address, where the operations begin at that place
abbrev pub address_place : Params → ℕ → List Spelled → Option ℕ
address_place h at [] = None
address_place h at (o ∷ s) = if is_address o.operation then Some (at + (length o.bytes - h.address_size))
    else address_place h (at + length o.bytes) s

abbrev pub first_section : List Placed → Option ℕ
first_section [] = None
first_section (p ∷ places) = Some p.section

-- the section of the symbol of the first relocation at a place
abbrev pub section_at : List Placed → ℕ → Option ℕ
section_at places at = first_section (filter (λ p. p.offset == at) places)

abbrev pub section_at_any : List Placed → Option ℕ → Option ℕ
section_at_any places None = None
section_at_any places (Some at) = section_at places at

-- the section of a sequence that begins at that place, if it is of any
abbrev pub section_of : Params → List Placed → ℕ → List Spelled → Option ℕ
section_of h places at s = section_at_any places (address_place h at s)

abbrev pub is_same : ℕ → Option ℕ → Bool
is_same section None = false
is_same section (Some other) = other == section

-- the number 1 in LEB128, in n bytes
abbrev pub padded_one : ℕ → List ℕ
padded_one zero = []
padded_one (suc zero) = 1 ∷ []
padded_one (suc (suc n)) = 129 ∷ replicate n 128 ++ 0 ∷ []

-- an extended opcode that isn't known, in n bytes, which are at least 3
abbrev pub passed_over : ℕ → List ℕ
passed_over (suc (suc n)) = 0 ∷ padded_one n ++ 128 ∷ []
passed_over other = []

-- a sequence of the section stays; another one is passed over
abbrev pub sequence_kept : Params → List Placed → ℕ → ℕ → List Spelled → List ℕ
sequence_kept h places section at s = if is_same section (section_of h places at s) then bytes_of s
    else passed_over (length (bytes_of s))

-- of sequences one after the other, the first at that place
abbrev pub sequences_kept : Params → List Placed → ℕ → ℕ → List (List Spelled) → List ℕ
sequences_kept h places section at [] = []
sequences_kept h places section at (s ∷ more) =
    sequence_kept h places section at s ++ sequences_kept h places section (at + length (bytes_of s)) more

-- of sequences, of the operations of one that doesn't end, and of bytes after them
abbrev pub cut_kept : Params → List Placed → ℕ → ℕ → Sequences → List ℕ → List ℕ
cut_kept h places section at cut rest = sequences_kept h places section at cut.whole ++ (bytes_of cut.begun ++ rest)

abbrev pub standing_kept : Params → List Placed → ℕ → ℕ → Standing Spelled → List ℕ
standing_kept h places section at found = cut_kept h places section at (sequences found.found) found.rest

-- of a program that begins at that place of its section
abbrev pub program_kept : Order → Params → List Placed → ℕ → ℕ → List ℕ → List ℕ
program_kept order h places section at program = standing_kept h places section at (spelled_in order h program)
