use Rattle.dl_rows.proofs.ProgramLaws.{one_program, program_is_found, found_is_program, none_begins_rest}
use Rattle.dl_rows.proofs.laws.program_is_found.Goals as goal

pub returns-clause-value : goal.returns-clause-value
returns-clause-value c = one_program

pub returns-clause-program : goal.returns-clause-program
returns-clause-program c = program_is_found

pub returns-clause-found : goal.returns-clause-found
returns-clause-found c = found_is_program

pub returns-clause-rest : goal.returns-clause-rest
returns-clause-rest c = none_begins_rest
