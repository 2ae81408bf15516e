use Rattle.dl_dirs.proofs.ShortLemmas.{directory_short}
use Rattle.dl_dirs.proofs.laws.directories_are_short.Goals as goal

pub returns : goal.returns
returns c = directory_short
