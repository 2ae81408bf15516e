use Rattle.dl_look.proofs.LiveLemmas.{of_live_rows}
use Rattle.dl_look.proofs.laws.answers_of_live_rows.Goals as goal

pub returns : goal.returns
returns c = of_live_rows
