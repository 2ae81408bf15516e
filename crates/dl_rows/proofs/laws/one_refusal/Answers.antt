use Rattle.dl_rows.proofs.UnitLaws.{one_refusal}
use Rattle.dl_rows.proofs.laws.one_refusal.Goals as goal

pub returns : goal.returns
returns c = one_refusal
