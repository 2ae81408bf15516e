use Rattle.std.proofs.Common.{◌≤◌, [], inl, inr, refl, arith}
use Rattle.dl_rows.proofs.OperationFront.{NoneGood, nowhere_good, bad_is_none}
use Rattle.dl_rows.proofs.front.operation_at_front.Goals as goal

pub returns-in-Within : goal.returns-in-Within
returns-in-Within c =
    let order = c.args.order in
    let h = c.args.params.now in
    let b = c.args.bytes.now in
    let some : 1 ≤ h.opcode_base = omega (arith, c.requires.opcodes) in
    let step = c.push.ensures.step [] refl in
    let none : NoneGood order h b = elim c.in-Within.is [
      | inl w ↦ nowhere_good order h b (rw w.1 at step).1
      | inr r ↦ (let s = rw r.2 at step in rw s.1 (bad_is_none order h s.0 r.1.now r.0 some s.2))
    ] in
    record { left = tt; some = tt; none = none }
