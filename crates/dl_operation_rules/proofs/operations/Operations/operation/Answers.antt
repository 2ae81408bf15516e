use Rattle.std.proofs.Common.{◌∙◌, sym}
use Rattle.dl_operation_rules.specs.Operations.{passed_over}
use Rattle.dl_operation_rules.proofs.OperationLemmas.{ends_operation, more_none, more_some}
use Rattle.dl_operation_rules.proofs.operations.Operations.operation.Goals.{in-Some, in_default}
use Rattle.dl_operation_rules.proofs.operations.Operations.operation.Goals as goal

pub returns : goal.returns
returns c s h knows led =
    let mid = c.match-passed_over.self in
    let passed = passed_over c.args.operation s.bytes in
    ends_operation mid s h c.args.operation c.args.place led (elim c.match-passed_over.branch [
      | in-Some w ↦
          more_some c.args.self.now mid s passed knows w.in-Some.opcode (sym (c.passed_over.ensures s knows) ∙ w.in-Some.is)
          (rw w.self-is w.pass_over.ensures.passed)
      | in_default w ↦
          more_none c.args.self.now mid s passed knows (sym (c.passed_over.ensures s knows) ∙ w.in_default.is) w.self-is
    ])
