use Rattle.dl_sections.proofs.OneCopying.{one_copying_to_5, one_copy_to_5, copy_to_5_is_front}
use Rattle.dl_sections.proofs.laws.one_copying_to_5.Goals as goal

pub returns-clause-answer : goal.returns-clause-answer
returns-clause-answer c = one_copying_to_5

pub returns-clause-text : goal.returns-clause-text
returns-clause-text c = one_copy_to_5

pub returns-clause-front : goal.returns-clause-front
returns-clause-front c = copy_to_5_is_front
