use Rattle.dl_asked.specs.AskedLines.{asked_in, ended}
use Rattle.dl_dialogue.proofs.DialogueLemmas.{byte_spoken}
use Rattle.dl_dialogue.specs.Faults.{TellFails}
use Rattle.dl_dialogue.proofs.dialogue.Dialogue.take_byte.Goals as goal

pub returns-clause-answers : goal.returns-clause-answers
returns-clause-answers g c = λ first m hex start done stays determines speaks.
    let before = asked_in hex (ended done) in
    byte_spoken m hex (TellFails (g.T.Tell.fails_with first) (g.T.Tell.asks first) (g.M.Memory.refuses c.args.memory.now)) start (g.W.Write.contents c.answer_if_asked.new.output) done
    c.args.byte c.take-asked.result c.answer_if_asked.new.printer (record {
      answers = c.answer_if_asked.new.self;
      line = c.take-asked.new.self;
    }) c.answer_if_asked.result (c.take-asked.ensures hex done before speaks.line)
    (c.answer_if_asked.ensures.answers first m start before stays determines speaks.answers)
