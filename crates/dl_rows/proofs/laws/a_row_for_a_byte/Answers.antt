use Rattle.dl_rows.proofs.ProgramLaws.{a_row_for_a_byte}
use Rattle.dl_rows.proofs.UnitLaws.{row_for_program_byte}
use Rattle.dl_rows.proofs.laws.a_row_for_a_byte.Goals as goal

pub returns-clause-program : goal.returns-clause-program
returns-clause-program c = a_row_for_a_byte

pub returns-clause-unit : goal.returns-clause-unit
returns-clause-unit c = row_for_program_byte
