use Rattle.std.proofs.Common.{arith, ◌∙◌}
use Rattle.dl_rows.proofs.BodyLemmas.{short_end, short_address, short_discriminator}
use Rattle.dl_rows.proofs.operation_state.short_extended.Goals as goal

pub returns-in-1-clause-operation : goal.returns-in-1-clause-operation
returns-in-1-clause-operation c =
    short_end c.args.order c.args.params.now (omega (arith, c.requires.opcodes)) c.in_ok-len.len.now
    c.in_ok-opcode.opcode.now c.args.bytes.now c.in_ok-len.bytes.now c.in_ok-opcode.bytes.now
    c.in_ok-len.ensures.cases.0 c.in_ok-opcode.ensures.cases.0 c.in-1.is c.if-len-eq1.true

pub returns-in_ok-address-in-2-clause-operation : goal.returns-in_ok-address-in-2-clause-operation
returns-in_ok-address-in-2-clause-operation c =
    let size = c.from-size.ensures in
    short_address c.args.order c.args.params.now (omega (arith, c.requires.opcodes)) c.in_ok-len.len.now
    c.in_ok-opcode.opcode.now c.in_ok-address-in-2.address c.args.bytes.now c.in_ok-len.bytes.now
    c.in_ok-opcode.bytes.now c.in_ok-address-in-2.tail.now
    c.in_ok-len.ensures.cases.0 c.in_ok-opcode.ensures.cases.0 c.in-2.is (omega arith) (omega arith)
    (let f = c.in_ok-address-in-2.ensures in (f.0, f.1, f.2 ∙ size, f.3))

pub returns-else-from-tail-clause-operation : goal.returns-else-from-tail-clause-operation
returns-else-from-tail-clause-operation c =
    short_discriminator c.args.order c.args.params.now (omega (arith, c.requires.opcodes)) c.in_ok-len.len.now
    c.in_ok-opcode.opcode.now c.in_ok-value-in-4.value c.args.bytes.now c.in_ok-len.bytes.now
    c.in_ok-opcode.bytes.now c.in_ok-value-in-4.tail.now
    c.in_ok-len.ensures.cases.0 c.in_ok-opcode.ensures.cases.0 c.in-4.is (omega arith) c.in_ok-value-in-4.ensures.fits
    (omega arith) c.in_ok-value-in-4.ensures.number
