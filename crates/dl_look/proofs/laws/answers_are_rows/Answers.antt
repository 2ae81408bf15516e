use Rattle.dl_look.proofs.AnswerLaws.{one_of_the_rows, upto, no_end_row}
use Rattle.dl_look.proofs.laws.answers_are_rows.Goals as goal

pub returns : goal.returns
returns c = record { rows = one_of_the_rows; upto = upto; no_end_rows = no_end_row }
