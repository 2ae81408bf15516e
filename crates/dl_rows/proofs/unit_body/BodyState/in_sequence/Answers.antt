use Rattle.dl_rows.specs.UnitBodies.{InProgram}
use Rattle.dl_rows.proofs.UnitBodyLemmas.{rows_at}
use Rattle.dl_rows.proofs.unit_body.BodyState.in_sequence.Goals as goal

pub returns-in-InProgram : goal.returns-in-InProgram
returns-in-InProgram c dialect h b s =
    let is : InProgram dialect h c.in-InProgram.body b = rw c.in-InProgram.is at s in
    rw (rows_at is.at) (c.in_sequence.ensures.rows dialect.order h.params is.at.program is.stands)
