use Rattle.std.proofs.Common.{⊎_elim, arith, rules}
use Rattle.dl_table.proofs.counted.write_some.Goals as goal
use Rattle.dl_table.proofs.counted.write_some.Goals.{then-ne-via-then-ne, then-ne-via-else-ne+then-interrupted-eq-INTERRUPTIONS}

pub returns-in-Ok-clause-nothing : goal.returns-in-Ok-clause-nothing
returns-in-Ok-clause-nothing g c = c.in-Ok.ensures.goes c.loop-n.interrupted c.loop-n.invariant.failed

pub returns-then-ne-clause-blames : goal.returns-then-ne-clause-blames
returns-then-ne-clause-blames g c =
    ⊎_elim
    (λ borne. elim c.then-ne.branch [
      | then-ne-via-then-ne w ↦ absurd (grind (rules, c.ne.ensures, c.kind.ensures, borne.0, w.if-ne.true))
      | then-ne-via-else-ne+then-interrupted-eq-INTERRUPTIONS w ↦ absurd (omega (arith, borne.1, w.if-interrupted-eq-INTERRUPTIONS.true))
    ])
    (λ fails. fails)
    (c.in-Err.ensures.goes c.loop-n.interrupted c.loop-n.invariant.failed).1
