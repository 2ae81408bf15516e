-- What the call that tells a fault's text answers.
use Rattle.std.specs.Prelude.{◌≡◌, ◌<◌, ⊤, ℕ, List, []}
use Rattle.std.specs.Option.{option_map_or}
use Rattle.dl_table.specs.declared.fault.FaultKind.{FaultKind}
use Rattle.dl_table.specs.declared.fault.FaultKind.TheVariants as fault
use Rattle.dl_print.specs.Text.{damage_text}
use Rattle.dl_buffers.specs.declared.record.FaultRecord.{FaultRecord}
use Rattle.dl_buffers.specs.Records.{record_of, told_kind}

-- the text of the fault that the numbers stand for; none where they stand for none
abbrev pub told_text : FaultRecord → List ℕ
told_text f = option_map_or (damage_text f.offset) (told_kind f.kind f.detail) []

-- an opcode is a byte
abbrev pub IsKind : FaultKind → Type 0
IsKind (fault.StandardLength opcode) = opcode < 256
IsKind other = ⊤

-- it undoes what the other calls tell
abbrev pub FaultsAreTold : Type 0
FaultsAreTold = (offset : ℕ) (kind : FaultKind) → IsKind kind
    → told_text (record_of offset kind) ≡ damage_text offset kind
