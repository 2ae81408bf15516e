use Rattle.dl_making.proofs.LineLemmas.{answers_of_index, lines_of_index}
use Rattle.dl_making.proofs.laws.lines_of_index.Goals as goal

pub returns-clause-answers : goal.returns-clause-answers
returns-clause-answers c = answers_of_index

pub returns-clause-lines : goal.returns-clause-lines
returns-clause-lines c = lines_of_index
