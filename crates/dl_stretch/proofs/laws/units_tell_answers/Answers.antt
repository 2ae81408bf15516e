use Rattle.dl_stretch.proofs.UnitLemmas.{tells_answers}
use Rattle.dl_stretch.proofs.laws.units_tell_answers.Goals as goal

pub returns : goal.returns
returns c = tells_answers
