use Rattle.dl_head.proofs.OneAnswer.{one_answer}
use Rattle.dl_head.proofs.laws.one_answer.Goals as goal

pub returns : goal.returns
returns c = one_answer
