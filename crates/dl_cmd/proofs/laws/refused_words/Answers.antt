use Rattle.dl_cmd.proofs.WordLaws.{conflict_is_fault, lack_is_fault}
use Rattle.dl_cmd.proofs.laws.refused_words.Goals as goal

pub returns-clause-conflict : goal.returns-clause-conflict
returns-clause-conflict c = conflict_is_fault

pub returns-clause-lack : goal.returns-clause-lack
returns-clause-lack c = lack_is_fault
