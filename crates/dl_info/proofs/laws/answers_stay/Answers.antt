use Rattle.dl_info.proofs.SteadyUnits.{answers_stay, lengths_stay}
use Rattle.dl_info.proofs.laws.answers_stay.Goals as goal

pub returns-clause-length : goal.returns-clause-length
returns-clause-length c = lengths_stay

pub returns-clause-entry : goal.returns-clause-entry
returns-clause-entry c = answers_stay
