use Rattle.dl_lines.proofs.AnsweringLemmas.{begins_if}
use Rattle.dl_lines.proofs.answering.seeker_of.Goals as goal

pub returns-clause-begins : goal.returns-clause-begins
returns-clause-begins g c =
    begins_if g.M.Memory.refuses c.build.result c.build.ensures.live c.build.ensures.statements c.build.ensures.refusal
