-- Bytes that are no operation, and what is wrong with them. DWARF 5, sections 6.2.5.2, 6.2.5.3 and 7.6.
use Rattle.std.specs.Prelude.{◌≡◌, ◌≢◌, ℕ, ◌+◌, ◌^◌, ◌<◌, ◌≤◌, ℤ, ◌⊎◌, List, [], ◌∷◌, ◌++◌, length}
use Rattle.dl_num.specs.Leb.{IsUleb, IsSleb, IsSigned64}
use Rattle.dl_field.specs.declared.params.Params.{Params}
use Rattle.dl_table.specs.declared.fault.FaultKind.{FaultKind}
use Rattle.dl_table.specs.declared.fault.FaultKind.TheVariants as fault
use Rattle.dl_rows.specs.Spelling.{IsNumber}

-- the operand of advance_pc, set_file, set_column or set_isa is 2^64 or more
pub record UnsignedOut (h : Params) (w : List ℕ) : Type 0 where
  pub opcode : ℕ
  pub takes : (opcode ≡ 2) ⊎ (opcode ≡ 4) ⊎ (opcode ≡ 5) ⊎ (opcode ≡ 12)
  pub below : opcode < h.opcode_base
  pub operand : List ℕ
  pub bytes : w ≡ opcode ∷ operand
  pub number : ℕ
  pub spells : IsUleb operand number
  pub out : 2 ^ 64 ≤ number

-- the operand of advance_line isn't from -2^63 to 2^63 - 1
pub record SignedOut (h : Params) (w : List ℕ) : Type 0 where
  pub below : 3 < h.opcode_base
  pub operand : List ℕ
  pub bytes : w ≡ 3 ∷ operand
  pub number : ℤ
  pub spells : IsSleb operand number
  pub out : IsSigned64 number → ⊥

-- a zero byte, n as the length of an extended opcode, and no more
pub record EndsInLength (w : List ℕ) (n : ℕ) : Type 0 where
  pub size : List ℕ
  pub bytes : w ≡ 0 ∷ size
  pub spells : IsUleb size n

-- a zero byte, a length n that holds an opcode, an extended opcode, and an operand of any length
pub record BeginsExtended (w : List ℕ) (n opcode : ℕ) (operand : List ℕ) : Type 0 where
  pub size : List ℕ
  pub bytes : w ≡ 0 ∷ (size ++ opcode ∷ operand)
  pub spells : IsUleb size n
  pub some : 1 ≤ n
  pub fits : n < 2 ^ 64

-- set_discriminator, whose length has room for an operand
pub record BeginsDiscriminator (w : List ℕ) (n : ℕ) (operand : List ℕ) : Type 0 where
  pub extended : BeginsExtended w n 4 operand
  pub room : 2 ≤ n

-- the length of an extended opcode is 2^64 or more
pub record LengthOut (w : List ℕ) : Type 0 where
  pub number : ℕ
  pub ends : EndsInLength w number
  pub out : 2 ^ 64 ≤ number

-- the operand of set_discriminator is 2^64 or more
pub record DiscriminatorOut (w : List ℕ) : Type 0 where
  pub n : ℕ
  pub operand : List ℕ
  pub begins : BeginsDiscriminator w n operand
  pub number : ℕ
  pub spells : IsUleb operand number
  pub out : 2 ^ 64 ≤ number

-- end_sequence has an operand, set_address one that isn't of address_size bytes, or set_discriminator none
abbrev pub IsWrongLength : Params → ℕ → ℕ → Type 0
IsWrongLength h opcode n =
    ((opcode ≡ 1) × (n ≢ 1)) ⊎ ((opcode ≡ 2) × (n ≢ 1 + h.address_size)) ⊎ ((opcode ≡ 4) × (n ≡ 1))

-- w ends with an extended opcode whose length is wrong
pub record WrongAtOpcode (h : Params) (w : List ℕ) : Type 0 where
  pub n : ℕ
  pub opcode : ℕ
  pub begins : BeginsExtended w n opcode []
  pub wrong : IsWrongLength h opcode n

-- the operand of set_discriminator is a number in LEB128 that doesn't fill the length, or fills the length and is none
pub record DiscriminatorLength (w : List ℕ) : Type 0 where
  pub n : ℕ
  pub operand : List ℕ
  pub begins : BeginsDiscriminator w n operand
  pub differs : (IsNumber operand × (1 + length operand ≢ n)) ⊎ ((IsNumber operand → ⊥) × (1 + length operand ≡ n))

-- w is an operation that is bad in this way
abbrev pub IsFaulty : Params → List ℕ → FaultKind → Type 0
IsFaulty h w fault.LebRange = UnsignedOut h w ⊎ SignedOut h w ⊎ LengthOut w ⊎ DiscriminatorOut w
IsFaulty h w fault.ExtendedEmpty = EndsInLength w 0
IsFaulty h w fault.ExtendedLength = WrongAtOpcode h w ⊎ DiscriminatorLength w
IsFaulty h w other = ⊥

-- their places among all faults: of two, the one of the lower place counts
abbrev pub fault_order : FaultKind → ℕ
fault_order fault.LebRange = 13
fault_order fault.ExtendedEmpty = 14
fault_order fault.ExtendedLength = 15
fault_order other = 16

-- w is a bad operation of this kind, and of none of a lower place
pub record IsBadOperation (h : Params) (w : List ℕ) (kind : FaultKind) : Type 0 where
  pub faulty : IsFaulty h w kind
  pub first : (other : FaultKind) → fault_order other < fault_order kind → IsFaulty h w other → ⊥
