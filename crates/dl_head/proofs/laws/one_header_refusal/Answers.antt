use Rattle.dl_head.proofs.RefusalLaws.{one_header_refusal, refusal_is_computed}
use Rattle.dl_head.proofs.laws.one_header_refusal.Goals as goal

pub returns-clause-one : goal.returns-clause-one
returns-clause-one c = one_header_refusal

pub returns-clause-computed : goal.returns-clause-computed
returns-clause-computed c = refusal_is_computed
