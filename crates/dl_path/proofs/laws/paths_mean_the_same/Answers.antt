use Rattle.dl_path.proofs.NewerPaths.{paths_mean_the_same}
use Rattle.dl_path.proofs.laws.paths_mean_the_same.Goals as goal

pub returns : goal.returns
returns c = paths_mean_the_same
