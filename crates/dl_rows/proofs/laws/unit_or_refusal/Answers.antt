use Rattle.dl_rows.proofs.UnitWhole.{unit_unless_refused}
use Rattle.dl_rows.proofs.laws.unit_or_refusal.Goals as goal

pub returns : goal.returns
returns c = unit_unless_refused
