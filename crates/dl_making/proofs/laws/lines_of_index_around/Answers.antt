use Rattle.dl_making.proofs.LineLemmas.{answers_of_index_around, lines_of_index_around}
use Rattle.dl_making.proofs.laws.lines_of_index_around.Goals as goal

pub returns-clause-answers : goal.returns-clause-answers
returns-clause-answers c = answers_of_index_around

pub returns-clause-lines : goal.returns-clause-lines
returns-clause-lines c = lines_of_index_around
