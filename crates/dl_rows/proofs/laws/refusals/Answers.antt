use Rattle.dl_rows.proofs.UnitFaults.{refused_in_program, operation_is_refused}
use Rattle.dl_rows.proofs.UnitLemmas.{refused_in_header}
use Rattle.dl_rows.proofs.laws.refusals.Goals as goal

pub returns-clause-header : goal.returns-clause-header
returns-clause-header c = refused_in_header

pub returns-clause-program : goal.returns-clause-program
returns-clause-program c = refused_in_program

pub returns-clause-operation : goal.returns-clause-operation
returns-clause-operation c = operation_is_refused
