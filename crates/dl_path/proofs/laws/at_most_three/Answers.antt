use Rattle.dl_path.proofs.PathTextLemmas.{at_most_three}
use Rattle.dl_path.proofs.laws.at_most_three.Goals as goal

pub returns : goal.returns
returns c = at_most_three
