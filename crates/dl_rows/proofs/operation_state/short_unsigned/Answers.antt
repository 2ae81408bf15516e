use Rattle.dl_rows.proofs.PhaseLemmas.{short_unsigned}
use Rattle.dl_rows.proofs.operation_state.short_unsigned.Goals as goal

pub returns : goal.returns
returns c = record {
  few = c.in_ok-operand.ensures.few;
  operation =
      λ order h below. short_unsigned order h c.args.opcode c.args.bytes.now c.in_ok-operand.tail.now
      c.in_ok-operand.operand c.operation.result below
      c.in_ok-operand.ensures.fits c.in_ok-operand.ensures.number c.operation.ensures.value;
}
