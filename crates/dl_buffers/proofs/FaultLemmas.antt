-- The way back from the numbers that stand for a fault.
use Rattle.std.proofs.Common.{◌≡◌, refl, ap, Some, Option, []}
use Rattle.std.specs.Option.{option_map_or}
use Rattle.std.proofs.lemmas.Bool.{lt-ltb}
use Rattle.dl_table.specs.declared.fault.FaultKind.{FaultKind}
use Rattle.dl_table.specs.declared.fault.FaultKind.TheVariants as fault
use Rattle.dl_print.specs.Text.{damage_text}
use Rattle.dl_buffers.specs.FaultCalls.{FaultsAreTold, IsKind}
use Rattle.dl_buffers.specs.Records.{kind_code, kind_detail, told_kind, plain_kind}

pub told_back : (kind : FaultKind) → IsKind kind → told_kind (kind_code kind) (kind_detail kind) ≡ Some kind
unfolding plain_kind
told_back fault.ReservedLength is = refl
told_back fault.UnitTooLong is = refl
told_back fault.UnitOverrun is = refl
told_back fault.AddressSize is = refl
told_back fault.HeaderBeyondUnit is = refl
told_back fault.HeaderOverrun is = refl
told_back fault.MaxOps is = refl
told_back fault.LineRange is = refl
told_back fault.OpcodeBase is = refl
told_back (fault.StandardLength opcode) is = rw (lt-ltb opcode 256 is) refl
told_back (fault.UnknownForm code) is = refl
told_back fault.EmptyFormat is = refl
told_back fault.LebRange is = refl
told_back fault.ExtendedEmpty is = refl
told_back fault.ExtendedLength is = refl
told_back fault.OpcodeOverrun is = refl
told_back fault.Truncated is = refl

pub faults_are_told : FaultsAreTold
faults_are_told offset kind is =
    ap (λ (k : Option FaultKind). option_map_or (damage_text offset) k []) (told_back kind is)
