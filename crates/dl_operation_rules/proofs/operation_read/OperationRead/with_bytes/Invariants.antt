use Rattle.std.proofs.Common.{◌≡◌, take}
use Rattle.std.specs.List.{fold}
use Rattle.dl_operation_rules.specs.Keeping.{read_with}
use Rattle.dl_operation_rules.proofs.operation_read.OperationRead.with_bytes.Given as goal

abbrev pub invariant-loop-byte : goal.invariant-loop-byte
invariant-loop-byte l = l.read ≡ fold read_with l.fn.self (take l.byte-index l.fn.bytes)
