use Rattle.dl_sections.proofs.SectionGrowth.{dump_is_front}
use Rattle.dl_sections.proofs.OneAnswers.{one_dumping, one_dump}
use Rattle.dl_sections.proofs.laws.one_dumping.Goals as goal

pub returns-clause-answer : goal.returns-clause-answer
returns-clause-answer c = one_dumping

pub returns-clause-text : goal.returns-clause-text
returns-clause-text c = one_dump

pub returns-clause-front : goal.returns-clause-front
returns-clause-front c = dump_is_front
