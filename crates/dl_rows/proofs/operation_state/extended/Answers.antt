use Rattle.std.proofs.Common.{rules, ◌≡◌, arith, ◌∙◌}
use Rattle.dl_rows.proofs.BodyLemmas.{address_begins, discriminator_begins, rest_begins, extended_pends, opcode_decides}
use Rattle.dl_rows.proofs.BodyLemmas.{end_is, end_of_wrong_length, address_of_wrong_length}
use Rattle.dl_rows.proofs.BodyLemmas.{discriminator_of_wrong_length, unknown_alone}
use Rattle.dl_rows.proofs.operation_state.extended.Goals.{in-1+else-len-eq1, in-2+else-len-from, in-4+else-len-gt1}
use Rattle.dl_rows.proofs.operation_state.extended.Goals as goal

pub returns-in_default-clause-step : goal.returns-in_default-clause-step
returns-in_default-clause-step c v s =
    extended_pends c.args.order c.args.params.now c.args.len v c.args.bytes.now c.in_default.ensures.cases s

pub returns-in-1-clause-step : goal.returns-in-1-clause-step
returns-in-1-clause-step c v s =
    opcode_decides c.args.order c.args.params.now c.args.len c.in-Some.opcode.now v c.args.bytes.now c.in-Some.bytes.now
    _ s c.in-Some.ensures.cases.0
    (end_is c.args.order c.args.params.now.address_size c.args.len c.in-Some.opcode.now c.in-1.is c.if-len-eq1.true)

pub returns-in-2-clause-step : goal.returns-in-2-clause-step
returns-in-2-clause-step c v s =
    let size : c.from-in-2.result ≡ c.args.params.now.address_size = c.from-in-2.ensures in
    address_begins c.args.order c.args.params.now c.args.len c.in-Some.opcode.now c.new.result v c.args.bytes.now
    c.in-Some.bytes.now c.address.result s c.in-Some.ensures.cases.0 c.in-2.is
    (omega (arith, c.if-len-from.true, c.from.ensures)) c.new.ensures.empty (c.new.ensures.size
    ∙ size) (c.address.ensures.step c.args.params.now)

pub returns-in-4-clause-step : goal.returns-in-4-clause-step
returns-in-4-clause-step c v s =
    discriminator_begins c.args.order c.args.params.now c.args.len c.in-Some.opcode.now c.new-in-4.result v
    c.args.bytes.now c.in-Some.bytes.now c.discriminator.result s
    c.in-Some.ensures.cases.0 c.in-4.is c.if-len-gt1.true c.new-in-4.ensures
    (c.discriminator.ensures.step c.args.order c.args.params.now)

pub returns-in_default-opcode-clause-step : goal.returns-in_default-opcode-clause-step
returns-in_default-opcode-clause-step c v s =
    rest_begins c.args.order c.args.params.now c.args.len c.in-Some.opcode.now v c.args.bytes.now c.in-Some.bytes.now
    c.rest.result s c.in-Some.ensures.cases.0 (search rules) (search rules)
    (search rules) c.if-len-gt1-2.true (c.rest.ensures.step c.args.order c.args.params.now)

pub returns-in_default-2-clause-step : goal.returns-in_default-2-clause-step
returns-in_default-2-clause-step c v s =
    opcode_decides c.args.order c.args.params.now c.args.len c.in-Some.opcode.now v c.args.bytes.now c.in-Some.bytes.now
    _ s c.in-Some.ensures.cases.0
    (unknown_alone c.args.order c.args.params.now.address_size c.args.len c.in-Some.opcode.now (search rules)
    (search rules) (search rules) (let some = s.1.2.1 in omega (arith, c.if-len-gt1-2.false)))

pub returns-in-1-2-clause-step : goal.returns-in-1-2-clause-step
returns-in-1-2-clause-step c v s =
    let order = c.args.order in
    let size = c.args.params.now.address_size in
    let n = c.args.len in
    let x = c.in-Some.opcode.now in
    opcode_decides order c.args.params.now n x v c.args.bytes.now c.in-Some.bytes.now _ s c.in-Some.ensures.cases.0
    (elim c.in-1-2-1.branch [
      | in-1+else-len-eq1 w ↦ end_of_wrong_length order size n x w.in-1.is w.if-len-eq1.false
      | in-2+else-len-from w ↦ address_of_wrong_length order size n x w.in-2.is
          (rw w.from.ensures at w.if-len-from.false)
      | in-4+else-len-gt1 w ↦ discriminator_of_wrong_length order size n x w.in-4.is (let some = s.1.2.1 in
          omega (arith, w.if-len-gt1.false))
    ])
