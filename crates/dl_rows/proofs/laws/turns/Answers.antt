use Rattle.dl_rows.proofs.RunLemmas.{trace_runs, trace_of_unit}
use Rattle.dl_rows.proofs.laws.turns.Goals as goal

pub returns-clause-trace : goal.returns-clause-trace
returns-clause-trace c = trace_runs

pub returns-clause-unit : goal.returns-clause-unit
returns-clause-unit c = trace_of_unit
