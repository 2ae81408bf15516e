use Rattle.std.proofs.Common.{arith, refl, ◌∷◌}
use Rattle.dl_rows.proofs.BodyLemmas.{length_of_zero}
use Rattle.dl_rows.proofs.operation_state.body.Goals as goal

pub returns-then-len-eq0-clause-step : goal.returns-then-len-eq0-clause-step
returns-then-len-eq0-clause-step c w u =
    length_of_zero c.args.order c.args.params.now w c.args.bytes.now (omega (arith, c.requires.opcodes))
    (rw c.if-len-eq0.true at u)

pub returns-clause-step : goal.returns-clause-step
returns-clause-step c w u =
    c.extended.ensures.step (0 ∷ w) (
      omega (arith, c.requires.opcodes),
      (w, refl, (u, omega (arith, c.if-len-eq0.false), (let f = c.ranges.len in omega arith))),
    )
