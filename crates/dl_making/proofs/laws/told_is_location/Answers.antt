use Rattle.dl_making.proofs.LineLemmas.{told_is_location}
use Rattle.dl_making.proofs.laws.told_is_location.Goals as goal

pub returns : goal.returns
returns c = told_is_location
