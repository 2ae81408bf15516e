use Rattle.dl_listing.proofs.PathLemmas.{paths_are_shown_whole}
use Rattle.dl_listing.proofs.laws.paths_are_shown_whole.Goals as goal

pub returns : goal.returns
returns c = paths_are_shown_whole
