use Rattle.std.proofs.Common.{◌≡◌, ◌≤◌, ◌∙◌, true, false, sym, arith}
use Rattle.dl_rows.specs.Matrix.{is_end}
use Rattle.dl_object.proofs.FrontLemmas.{so_far_more, so_far_ends, so_far_within}
use Rattle.dl_object.proofs.sequence.sequence_at_front.Goals as goal

pub returns-then-ends_sequence-clause-within : goal.returns-then-ends_sequence-clause-within
returns-then-ends_sequence-clause-within c =
    let some : 1 ≤ c.args.params.now.opcode_base = omega (arith, c.requires.opcodes) in
    let first = c.in-Some.ensures.some in
    let ends : is_end c.in-Some.operation ≡ true = sym c.ends_sequence.ensures ∙ c.if-ends_sequence.true in
    so_far_within c.args.order c.args.params.now c.args.bytes.now c.loop-operation.rest.now c.loop-operation.address
    c.loop-operation.invariant.so_far first.0 c.in-Some.tail.now c.in-Some.operation first.1 first.2 some ends

pub returns-then-ends_sequence-clause-front : goal.returns-then-ends_sequence-clause-front
returns-then-ends_sequence-clause-front c =
    let some : 1 ≤ c.args.params.now.opcode_base = omega (arith, c.requires.opcodes) in
    let first = c.in-Some.ensures.some in
    let ends : is_end c.in-Some.operation ≡ true = sym c.ends_sequence.ensures ∙ c.if-ends_sequence.true in
    so_far_ends c.args.order c.args.params.now c.args.bytes.now c.loop-operation.rest.now c.loop-operation.address
    c.loop-operation.invariant.so_far first.0 c.in-Some.tail.now c.in-Some.operation first.1 first.2 some ends

pub loop-operation-preserved : goal.loop-operation-preserved
loop-operation-preserved c =
    let first = c.in-Some.ensures.some in
    let goes : is_end c.in-Some.operation ≡ false = sym c.ends_sequence.ensures ∙ c.if-ends_sequence.false in
    let left = c.in-Some.ensures.left in
    let within = c.loop-operation.invariant.within in
    let size = c.from.ensures in
    let operand = c.saturating_sub-before_operand.ensures in
    record {
      within = omega (arith, left, within);
      so_far = rw c.address_with-address.ensures
          (so_far_more c.args.order c.args.params.now c.args.bytes.now c.loop-operation.rest.now c.loop-operation.address
          c.loop-operation.invariant.so_far first.0 c.in-Some.tail.now c.in-Some.operation first.1 first.2 _ goes
          (omega (arith, operand, size)));
    }
