use Rattle.dl_rows.proofs.OperationLaws.{one_operation, none_begins_another, no_spelling_is_faulty}
use Rattle.dl_rows.proofs.laws.one_operation.Goals as goal

pub returns-clause-value : goal.returns-clause-value
returns-clause-value c = one_operation

pub returns-clause-end : goal.returns-clause-end
returns-clause-end c = none_begins_another

pub returns-clause-sound : goal.returns-clause-sound
returns-clause-sound c = no_spelling_is_faulty
