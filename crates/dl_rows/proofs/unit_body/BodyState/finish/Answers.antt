use Rattle.dl_rows.proofs.ReaderLemmas.{finish_program}
use Rattle.dl_rows.proofs.unit_body.BodyState.finish.Goals as goal

pub returns-in-InProgram : goal.returns-in-InProgram
returns-in-InProgram c dialect h b s =
    finish_program (rw c.in-InProgram.is at s) c.finish.ensures.whole c.finish.ensures.truncated
