use Rattle.dl_rows.proofs.OperationLaws.{spelt_is_spelled, bad_is_faulty}
use Rattle.dl_rows.proofs.laws.operation_is_computed.Goals as goal

pub returns-clause-good : goal.returns-clause-good
returns-clause-good c = spelt_is_spelled

pub returns-clause-bad : goal.returns-clause-bad
returns-clause-bad c = bad_is_faulty
