use Rattle.dl_rows.proofs.ItemLemmas.{items_are_these, items_grow}
use Rattle.dl_rows.proofs.laws.items_of_a_program.Goals as goal

pub returns-clause-these : goal.returns-clause-these
returns-clause-these c = items_are_these

pub returns-clause-grow : goal.returns-clause-grow
returns-clause-grow c = items_grow
