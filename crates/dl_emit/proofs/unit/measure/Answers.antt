use Rattle.std.proofs.Common.{refl}
use Rattle.dl_emit.proofs.UnitLemmas.{measured}
use Rattle.dl_emit.proofs.unit.measure.Goals as goal

pub returns-in-Ok : goal.returns-in-Ok
returns-in-Ok c =
    let told = rw c.params.ensures.value at c.in_ok-program_len.ensures in
    measured c.args.header.now c.args.rows.now c.in-Ok.len c.in_ok-program_len.program_len told.ok told.len
    (c.in-Ok.ensures.refused.0 refl) c.in-Ok.ensures.len
