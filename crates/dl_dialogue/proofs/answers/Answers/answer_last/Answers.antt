use Rattle.std.proofs.Common.{[], ◌++◌}
use Rattle.dl_asked.specs.AskedLines.{and_asked}
use Rattle.dl_dialogue.specs.Faults.{TellFails}
use Rattle.dl_dialogue.proofs.AnswerLemmas.{written_weaker}
use Rattle.dl_dialogue.proofs.answers.Answers.answer_last.Goals as goal

pub returns-clause-answers : goal.returns-clause-answers
returns-clause-answers g c = λ first m start before stays determines stands.
    written_weaker _ m (TellFails (g.T.Tell.fails_with first) (g.T.Tell.asks first) (g.M.Memory.refuses c.args.memory.now)) start
    (g.W.Write.contents c.flush.new.output) (before ++ and_asked c.args.asked []) c.flush.result
    (c.flush.ensures.flushed m start (before ++ and_asked c.args.asked [])
    (c.in_ok-answer_if_asked.ensures.answers first m start before stays determines stands))
