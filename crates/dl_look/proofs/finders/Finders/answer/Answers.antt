use Rattle.std.proofs.Common.{◌∙◌}
use Rattle.dl_look.proofs.AnsweredLemmas.{answer_is}
use Rattle.dl_look.proofs.finders.Finders.answer.Goals as goal

pub answer-requires : goal.answer-requires
answer-requires c i e is = (c.args.self.now.sound.logged i e is).0

pub returns : goal.returns
returns c places units rows st = c.answer.ensures ∙ answer_is c.args.self.now places units rows st c.args.number
