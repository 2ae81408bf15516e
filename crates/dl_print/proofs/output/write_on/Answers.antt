use Rattle.std.proofs.Common.{arith, ap, length, length-drop, ℕ}
use Rattle.dl_print.proofs.Outs.{HasOut-pending}
use Rattle.dl_print.proofs.output.write_on.Goals as goal

pub returns-in-Err-clause-printed : goal.returns-in-Err-clause-printed
returns-in-Err-clause-printed g c = λ start text h.
    let some = c.in-Err.ensures.part in
    let rest = ap length h.rest in
    let within = h.first.within in (
      omega (arith, length-drop {A = ℕ}),
      HasOut-pending start _ _ text _ _ _ h (record {
        within =
            omega arith;
        written = c.in-Err.ensures.err;
      }),
    )
