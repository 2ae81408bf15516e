use Rattle.std.proofs.Common.{◌-◌, arith, refl, [], slice_index}
use Rattle.dl_rows.specs.Phases.{LebsLeft}
use Rattle.dl_rows.proofs.OperandLemmas.{lebs_start}
use Rattle.dl_rows.proofs.BodyLemmas.{skipped_at_once}
use Rattle.dl_rows.proofs.operation_state.operands.Goals as goal

pub returns-then-count-eq0-clause-step : goal.returns-then-count-eq0-clause-step
returns-then-count-eq0-clause-step c order =
    let is = rw (c.deref.ensures.0, c.from.ensures) at c.if-count-eq0.true in
    skipped_at_once order c.args.params.now c.args.opcode c.args.bytes.now c.requires.unknown c.requires.below is

pub returns-clause-step : goal.returns-clause-step
returns-clause-step c order =
    let count = slice_index c.args.params.now.lengths.items (c.args.opcode - 1) in
    let some = rw (c.deref.ensures.0, c.from.ensures) at c.if-count-eq0.false in
    let left : LebsLeft count [] count = lebs_start count (omega (arith, some)) in
    c.skipped.ensures.step order c.args.params.now _ (
      c.args.opcode,
      c.requires.unknown,
      c.requires.below,
      ([], refl, rw (c.deref.ensures.0, c.from.ensures) left),
    )
