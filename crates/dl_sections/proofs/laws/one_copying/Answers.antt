use Rattle.dl_sections.proofs.OneCopying.{one_copying, one_copy, copy_is_front}
use Rattle.dl_sections.proofs.laws.one_copying.Goals as goal

pub returns-clause-answer : goal.returns-clause-answer
returns-clause-answer c = one_copying

pub returns-clause-text : goal.returns-clause-text
returns-clause-text c = one_copy

pub returns-clause-front : goal.returns-clause-front
returns-clause-front c = copy_is_front
