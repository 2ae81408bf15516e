use Rattle.dl_info.proofs.SteadyUnits.{twelve_bytes_tell, whole_units_tell}
use Rattle.dl_info.proofs.laws.whole_units_tell.Goals as goal

pub returns-clause-length : goal.returns-clause-length
returns-clause-length c = twelve_bytes_tell

pub returns-clause-entry : goal.returns-clause-entry
returns-clause-entry c = whole_units_tell
