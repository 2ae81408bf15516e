-- What bytes are as an operation, computed. DWARF 5, sections 6.2.5.1 to 6.2.5.3.
use Rattle.std.specs.Prelude.{ℕ, zero, suc, ◌+◌, ◌-◌, ◌^◌, ℤ, pos, negsuc, Bool, not, ◌&&◌, ◌||◌, List, [], ◌∷◌, length}
use Rattle.std.specs.Prelude.{Option, Some, None, Ok, Err, nat_lt, nat_le, ◌==◌, if◌then◌else◌, slice_get, slice_index}
use Rattle.dl_num.specs.declared.fixed.Order.{Order}
use Rattle.dl_num.specs.Fixed.{fixed}
use Rattle.dl_num.specs.Leb.{groups, signed_groups}
use Rattle.dl_num.specs.LebFront.{is_leb, leb_front, after_leb}
use Rattle.dl_num.specs.Front.{Standing, standing}
use Rattle.dl_field.specs.declared.params.Params.{Params}
use Rattle.dl_table.specs.declared.fault.FaultKind.TheVariants as fault
use Rattle.dl_table.specs.Value.{Judgement, good, bad}
use Rattle.dl_rows.specs.declared.operation.Operation.{Operation}
use Rattle.dl_rows.specs.declared.operation.Operation.TheVariants as op

-- a standard opcode by its operand: none, an unsigned or a signed number in LEB128, or two bytes
pub data Standard : Type 0 where
  bare : Operation → Standard
  unsigned : (ℕ → Operation) → Standard
  signed : (ℤ → Operation) → Standard
  two_bytes : (ℕ → Operation) → Standard

-- the opcodes from 1 to 12, section 6.2.5.2
abbrev pub standard_opcodes : List Standard
standard_opcodes =
    bare op.Copy ∷ unsigned (λ n. op.AdvancePc n) ∷ signed (λ i. op.AdvanceLine i) ∷ unsigned (λ n. op.SetFile n)
    ∷ unsigned (λ n. op.SetColumn n) ∷ bare op.NegateStatement ∷ bare op.SetBasicBlock ∷ bare op.ConstAddPc
    ∷ two_bytes (λ n. op.FixedAdvancePc n)
    ∷ bare op.SetPrologueEnd ∷ bare op.SetEpilogueBegin ∷ unsigned (λ n. op.SetIsa n) ∷ []

abbrev pub is_empty : List ℕ → Bool
is_empty w = length w == 0

-- from -2^63 to 2^63 - 1
abbrev pub fits_signed : ℤ → Bool
fits_signed (pos n) = nat_lt n (2 ^ 63)
fits_signed (negsuc n) = nat_lt n (2 ^ 63)

abbrev pub last_byte : List ℕ → ℕ
last_byte [] = 0
last_byte (b ∷ []) = b
last_byte (b ∷ c ∷ w) = last_byte (c ∷ w)

-- the signed number that w spells
abbrev pub signed_number : List ℕ → ℤ
signed_number w = signed_groups w (last_byte w)

abbrev pub unsigned_operand : (ℕ → Operation) → List ℕ → Judgement Operation
unsigned_operand make w =
    if is_leb w then (if nat_lt (groups w) (2 ^ 64) then good (make (groups w)) else bad fault.LebRange) else None

abbrev pub signed_operand : (ℤ → Operation) → List ℕ → Judgement Operation
signed_operand make w =
    if is_leb w then (if fits_signed (signed_number w) then good (make (signed_number w)) else bad fault.LebRange)
    else None

abbrev pub standard_spelt : Order → Option Standard → List ℕ → Judgement Operation
standard_spelt order (Some (bare o)) w = if is_empty w then good o else None
standard_spelt order (Some (unsigned make)) w = unsigned_operand make w
standard_spelt order (Some (signed make)) w = signed_operand make w
standard_spelt order (Some (two_bytes make)) w = if length w == 2 then good (make (fixed order w)) else None
standard_spelt order None w = None

-- w is count numbers in LEB128, of any size
abbrev pub are_lebs : ℕ → List ℕ → Bool
are_lebs zero w = is_empty w
are_lebs (suc count) w = is_leb (leb_front w) && are_lebs count (after_leb w)

-- the operand of set_discriminator; n is the length of the extended opcode with it
abbrev pub discriminator_spelt : ℕ → List ℕ → Judgement Operation
discriminator_spelt n w =
    if n == 1 then (if is_empty w then bad fault.ExtendedLength else None) else
    if is_leb w then
    (if not (nat_lt (groups w) (2 ^ 64)) then bad fault.LebRange else
    if 1 + length w == n then good (op.SetDiscriminator (groups w)) else bad fault.ExtendedLength) else
    if 1 + length w == n then bad fault.ExtendedLength else None

-- an extended opcode with its operand w, section 6.2.5.3; n is the length of both
abbrev pub extended_spelt : Order → ℕ → ℕ → ℕ → List ℕ → Judgement Operation
extended_spelt order address_size n opcode w =
    if opcode == 1 then (if is_empty w then (if n == 1 then good op.EndSequence else bad fault.ExtendedLength)
    else None) else
    if opcode == 2 then
    (if n == 1 + address_size then (if length w == address_size then good (op.SetAddress (fixed order w)) else None)
    else
    if is_empty w then bad fault.ExtendedLength else None) else
    if opcode == 4 then discriminator_spelt n w else
    if 1 + length w == n then good op.Skipped else None

-- what follows a length n: nothing yet, or the extended opcode
abbrev pub body_spelt : Order → ℕ → ℕ → List ℕ → Judgement Operation
body_spelt order address_size n [] =
    if n == 0 then bad fault.ExtendedEmpty else if nat_lt n (2 ^ 64) then None else bad fault.LebRange
body_spelt order address_size n (opcode ∷ w) =
    if (n == 0) || not (nat_lt n (2 ^ 64)) then None else extended_spelt order address_size n opcode w

-- what follows the zero byte: the length in LEB128, the extended opcode, the operand
abbrev pub length_and_body : Order → ℕ → List ℕ → Judgement Operation
length_and_body order address_size w =
    if is_leb (leb_front w) then body_spelt order address_size (groups (leb_front w)) (after_leb w) else None

-- what w is as an operation
abbrev pub operation_spelt : Order → Params → List ℕ → Judgement Operation
operation_spelt order h [] = None
operation_spelt order h (b ∷ w) =
    if nat_le h.opcode_base b then (if is_empty w then good (op.Special b) else None) else
    if b == 0 then length_and_body order h.address_size w else
    if nat_le b 12 then standard_spelt order (slice_get standard_opcodes (b - 1)) w else
    if are_lebs (slice_index h.lengths.items (b - 1)) w then good op.Skipped else None

abbrev pub good_one : {A : Type 0} → Judgement A → Option A
good_one (Some (Ok a)) = Some a
good_one (Some (Err kind)) = None
good_one None = None

-- the operations whose spellings fill a front of the program, and the bytes after them
abbrev pub operations_in : Order → Params → List ℕ → Standing Operation
operations_in order h program = standing (λ w. good_one (operation_spelt order h w)) program
