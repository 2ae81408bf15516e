use Rattle.dl_open.proofs.ShortLemmas.{directories_short}
use Rattle.dl_open.proofs.laws.directories_are_short.Goals as goal

pub returns : goal.returns
returns c = directories_short
