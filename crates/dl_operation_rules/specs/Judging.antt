-- What the rules say of an operation, and of an opcode that is passed over. DWARF 5, sections 6.2.5.1 to 6.2.5.3.
use Rattle.std.specs.Prelude.{◌≡◌, ℕ, ◌*◌, ◌^◌, Bool, true, false, not, ◌==◌, ◌&&◌, nat_le, nat_lt, List, None}
use Rattle.std.specs.List.{list_any}
use Rattle.dl_field.specs.declared.params.Params.{Params}
use Rattle.dl_rows.specs.declared.operation.Operation.{Operation}
use Rattle.dl_rows.specs.declared.operation.Operation.TheVariants as op
use Rattle.dl_findings.specs.declared.finding.Opcode.{Opcode}
use Rattle.dl_findings.specs.declared.finding.Opcode.TheVariants as opcode
use Rattle.dl_operation_rules.specs.Operations.{UnitSeen, longest_number, moved_by, passed_over}
use Rattle.dl_operation_rules.specs.declared.advance.Moved.{Moved}

-- ---- wrapped-address: an advance (section 6.2.5.1, and DW_LNS_fixed_advance_pc) leads the address past what address_size bytes
-- hold, from where it goes on at 0

abbrev pub is_advance : Operation → Bool
is_advance (op.Special b) = true
is_advance (op.AdvancePc n) = true
is_advance op.ConstAddPc = true
is_advance (op.FixedAdvancePc n) = true
is_advance o = false

abbrev pub wraps : Params → Moved → Operation → Bool
wraps p moved o = nat_le (2 ^ (8 * p.address_size)) moved.address && is_advance o

-- ---- unknown-opcode: an opcode that is passed over and that the standard doesn't name, the first time in its unit

-- DW_LNE_define_file, extended opcode 3, is one of versions 2 to 4 (DWARF 4, section 6.2.5.3)
abbrev pub is_named : (version : ℕ) → Opcode → Bool
is_named version (opcode.Standard b) = false
is_named version (opcode.Extended b) = (b == 3) && nat_lt version 5

abbrev pub is_same : Opcode → Opcode → Bool
is_same (opcode.Standard a) (opcode.Standard b) = a == b
is_same (opcode.Extended a) (opcode.Extended b) = a == b
is_same a b = false

-- one that isn't named, and none of those before
abbrev pub is_unknown : Params → (before : List Opcode) → Opcode → Bool
is_unknown p before o = not (is_named p.version o) && not (list_any (is_same o) before)

-- ---- none of these rules finds anything at an operation, by what is seen before it

pub record IsGood (p : Params) (s : UnitSeen) (o : Operation) : Type 0 where
  pub short : nat_lt 10 (longest_number s.bytes) ≡ false
  pub within : wraps p (moved_by p s.place o) o ≡ false
  pub known : passed_over o s.bytes ≡ None
