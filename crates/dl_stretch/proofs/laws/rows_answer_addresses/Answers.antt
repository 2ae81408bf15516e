use Rattle.dl_stretch.proofs.RunLemmas.{covers_addresses, last_row_begun}
use Rattle.dl_stretch.proofs.laws.rows_answer_addresses.Goals as goal

pub returns : goal.returns
returns c = record { covered = covers_addresses; last = last_row_begun }
