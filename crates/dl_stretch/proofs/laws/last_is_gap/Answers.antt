use Rattle.dl_stretch.proofs.RunLemmas.{covers_last}
use Rattle.dl_stretch.proofs.StretchLemmas.{last_gap}
use Rattle.dl_stretch.proofs.laws.last_is_gap.Goals as goal

pub returns : goal.returns
returns c = record { gap = last_gap; covered = covers_last }
