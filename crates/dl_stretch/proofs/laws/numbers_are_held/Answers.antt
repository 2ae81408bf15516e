use Rattle.dl_stretch.proofs.HeldLemmas.{held_as_given}
use Rattle.dl_stretch.proofs.laws.numbers_are_held.Goals as goal

pub returns : goal.returns
returns c = held_as_given
