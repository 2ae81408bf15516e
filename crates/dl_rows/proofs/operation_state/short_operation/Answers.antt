use Rattle.std.proofs.Common.{[], ◌∷◌, w64, arith}
use Rattle.std.proofs.lemmas.Int.{to_z-of_z}
use Rattle.dl_rows.proofs.PhaseLemmas.{after_opcode, signed_fits, short_line}
use Rattle.dl_rows.proofs.operation_state.short_operation.Goals as goal

pub returns-in-Some-clause-operation : goal.returns-in-Some-clause-operation
returns-in-Some-clause-operation c =
    (c.in_ok-opcode.opcode.now ∷ [], c.in_ok-opcode.ensures.cases.0, c.in-Some.ensures.some c.args.order)

pub returns-in-0-clause-operation : goal.returns-in-0-clause-operation
returns-in-0-clause-operation c =
    after_opcode c.args.order c.args.params.now 0 c.in_ok-opcode.opcode.now c.args.bytes.now c.in_ok-opcode.bytes.now
    c.short_extended.result c.in-0.is c.in_ok-opcode.ensures.cases.0 c.short_extended.ensures.operation

pub returns-in_ok-lines-in-3-clause-operation : goal.returns-in_ok-lines-in-3-clause-operation
returns-in_ok-lines-in-3-clause-operation c =
    let lines = c.in_ok-lines-in-3.lines in
    rw (to_z-of_z w64 lines (signed_fits lines c.in_ok-lines-in-3.ensures.fits))
    (short_line c.args.order c.args.params.now c.in_ok-opcode.opcode.now c.args.bytes.now c.in_ok-opcode.bytes.now
    c.in_ok-lines-in-3.tail.now lines c.in-3.is c.in_default.ensures.none.0
    c.in_ok-opcode.ensures.cases.0 c.in_ok-lines-in-3.ensures.fits c.in_ok-lines-in-3.ensures.number)

pub returns-in-2-clause-operation : goal.returns-in-2-clause-operation
returns-in-2-clause-operation c =
    after_opcode c.args.order c.args.params.now 2 c.in_ok-opcode.opcode.now c.args.bytes.now c.in_ok-opcode.bytes.now
    c.short_unsigned.result c.in-2.is c.in_ok-opcode.ensures.cases.0
    (c.short_unsigned.ensures.operation c.args.order c.args.params.now
    (omega (arith, c.in-2.is, c.in_default.ensures.none.0)))

pub returns-in-4-clause-operation : goal.returns-in-4-clause-operation
returns-in-4-clause-operation c =
    after_opcode c.args.order c.args.params.now 4 c.in_ok-opcode.opcode.now c.args.bytes.now c.in_ok-opcode.bytes.now
    c.short_unsigned-in-4.result c.in-4.is c.in_ok-opcode.ensures.cases.0
    (c.short_unsigned-in-4.ensures.operation c.args.order c.args.params.now
    (omega (arith, c.in-4.is, c.in_default.ensures.none.0)))

pub returns-in-5-clause-operation : goal.returns-in-5-clause-operation
returns-in-5-clause-operation c =
    after_opcode c.args.order c.args.params.now 5 c.in_ok-opcode.opcode.now c.args.bytes.now c.in_ok-opcode.bytes.now
    c.short_unsigned-in-5.result c.in-5.is c.in_ok-opcode.ensures.cases.0
    (c.short_unsigned-in-5.ensures.operation c.args.order c.args.params.now
    (omega (arith, c.in-5.is, c.in_default.ensures.none.0)))

pub returns-in-12-clause-operation : goal.returns-in-12-clause-operation
returns-in-12-clause-operation c =
    after_opcode c.args.order c.args.params.now 12 c.in_ok-opcode.opcode.now c.args.bytes.now c.in_ok-opcode.bytes.now
    c.short_unsigned-in-12.result c.in-12.is c.in_ok-opcode.ensures.cases.0
    (c.short_unsigned-in-12.ensures.operation c.args.order c.args.params.now
    (omega (arith, c.in-12.is, c.in_default.ensures.none.0)))
