use Rattle.dl_rows.proofs.CallLemmas.{rows_are_calls}
use Rattle.dl_rows.proofs.laws.rows_are_calls.Goals as goal

pub returns : goal.returns
returns c = rows_are_calls
