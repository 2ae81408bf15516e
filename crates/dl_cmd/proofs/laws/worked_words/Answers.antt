use Rattle.dl_cmd.proofs.WordLaws.{worked_words}
use Rattle.dl_cmd.proofs.laws.worked_words.Goals as goal

pub returns : goal.returns
returns c = worked_words
