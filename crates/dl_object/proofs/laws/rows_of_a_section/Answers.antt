use Rattle.dl_object.proofs.RowLaws.{rows_of_section}
use Rattle.dl_object.proofs.laws.rows_of_a_section.Goals as goal

pub returns : goal.returns
returns c = rows_of_section
