-- How the operations of a line number program are spelled. DWARF 5, sections 6.2.5.1 to 6.2.5.3.
use Rattle.std.specs.Prelude.{◌≡◌, ◌≢◌, ℕ, ◌-◌, ◌^◌, ◌<◌, ◌≤◌, ℤ, ◌⊎◌, slice_index, List, [], ◌∷◌, ◌++◌, length}
use Rattle.std.specs.List.{concat, AllByRecursion}
use Rattle.dl_num.specs.declared.fixed.Order.{Order}
use Rattle.dl_num.specs.Leb.{IsLeb, IsUleb, IsSleb, IsSigned64}
use Rattle.dl_num.specs.Fixed.{fixed}
use Rattle.dl_field.specs.declared.params.Params.{Params}
use Rattle.dl_rows.specs.declared.operation.Operation.{Operation}
use Rattle.dl_rows.specs.declared.operation.Operation.TheVariants as op

-- a standard opcode without an operand
pub record IsBare (h : Params) (opcode : ℕ) (w : List ℕ) : Type 0 where
  pub below : opcode < h.opcode_base
  pub bytes : w ≡ opcode ∷ []

-- a standard opcode with an unsigned operand
pub record HasUnsigned (h : Params) (opcode n : ℕ) (w : List ℕ) : Type 0 where
  pub below : opcode < h.opcode_base
  pub operand : List ℕ
  pub bytes : w ≡ opcode ∷ operand
  pub spells : IsUleb operand n
  pub fits : n < 2 ^ 64

-- advance_line
pub record HasSigned (h : Params) (i : ℤ) (w : List ℕ) : Type 0 where
  pub below : 3 < h.opcode_base
  pub operand : List ℕ
  pub bytes : w ≡ 3 ∷ operand
  pub spells : IsSleb operand i
  pub fits : IsSigned64 i

-- fixed_advance_pc
pub record HasTwoBytes (order : Order) (h : Params) (n : ℕ) (w : List ℕ) : Type 0 where
  pub below : 9 < h.opcode_base
  pub operand : List ℕ
  pub bytes : w ≡ 9 ∷ operand
  pub size : length operand ≡ 2
  pub number : n ≡ fixed order operand

-- an extended opcode with its operand: a zero byte, their length, they themselves
pub record IsExtended (w body : List ℕ) : Type 0 where
  pub size : List ℕ
  pub bytes : w ≡ 0 ∷ (size ++ body)
  pub spells : IsUleb size (length body)
  pub fits : length body < 2 ^ 64

-- set_address
pub record HasAddress (order : Order) (h : Params) (n : ℕ) (w : List ℕ) : Type 0 where
  pub operand : List ℕ
  pub extended : IsExtended w (2 ∷ operand)
  pub size : length operand ≡ h.address_size
  pub number : n ≡ fixed order operand

-- set_discriminator
pub record HasDiscriminator (n : ℕ) (w : List ℕ) : Type 0 where
  pub operand : List ℕ
  pub extended : IsExtended w (4 ∷ operand)
  pub spells : IsUleb operand n
  pub fits : n < 2 ^ 64

abbrev pub IsNumber : List ℕ → Type 0
IsNumber w = (front : List ℕ) × (last : ℕ) × IsLeb w front last

-- a standard opcode from 13 on, with as many numbers of any size as the header says
pub record SkipsStandard (h : Params) (w : List ℕ) : Type 0 where
  pub opcode : ℕ
  pub from : 13 ≤ opcode
  pub below : opcode < h.opcode_base
  pub operands : List (List ℕ)
  pub count : length operands ≡ slice_index h.lengths.items (opcode - 1)
  pub each : AllByRecursion IsNumber operands
  pub bytes : w ≡ opcode ∷ concat operands

-- an extended opcode other than 1, 2 and 4
pub record SkipsExtended (w : List ℕ) : Type 0 where
  pub opcode : ℕ
  pub operand : List ℕ
  pub extended : IsExtended w (opcode ∷ operand)
  pub not_end_sequence : opcode ≢ 1
  pub not_set_address : opcode ≢ 2
  pub not_set_discriminator : opcode ≢ 4

-- w spells the operation
abbrev pub SpellsOperation : Order → Params → Operation → List ℕ → Type 0
SpellsOperation order h (op.Special b) w = (h.opcode_base ≤ b) × (w ≡ b ∷ [])
SpellsOperation order h op.Copy w = IsBare h 1 w
SpellsOperation order h (op.AdvancePc n) w = HasUnsigned h 2 n w
SpellsOperation order h (op.AdvanceLine i) w = HasSigned h i w
SpellsOperation order h (op.SetFile n) w = HasUnsigned h 4 n w
SpellsOperation order h (op.SetColumn n) w = HasUnsigned h 5 n w
SpellsOperation order h op.NegateStatement w = IsBare h 6 w
SpellsOperation order h op.SetBasicBlock w = IsBare h 7 w
SpellsOperation order h op.ConstAddPc w = IsBare h 8 w
SpellsOperation order h (op.FixedAdvancePc n) w = HasTwoBytes order h n w
SpellsOperation order h op.SetPrologueEnd w = IsBare h 10 w
SpellsOperation order h op.SetEpilogueBegin w = IsBare h 11 w
SpellsOperation order h (op.SetIsa n) w = HasUnsigned h 12 n w
SpellsOperation order h op.EndSequence w = IsExtended w (1 ∷ [])
SpellsOperation order h (op.SetAddress n) w = HasAddress order h n w
SpellsOperation order h (op.SetDiscriminator n) w = HasDiscriminator n w
SpellsOperation order h op.Skipped w = SkipsStandard h w ⊎ SkipsExtended w

-- w is the spellings of the operations, joined
abbrev pub SpellsProgram : Order → Params → List Operation → List ℕ → Type 0
SpellsProgram order h [] w = w ≡ []
SpellsProgram order h (o ∷ p) w =
    (front : List ℕ) × (rest : List ℕ) × (w ≡ front ++ rest) × SpellsOperation order h o front
    × SpellsProgram order h p rest
