use Rattle.std.proofs.Common.{refl}
use Rattle.dl_sections.specs.Section.{of_end}
use Rattle.dl_dump.proofs.RangeLemmas.{tells_nothing}
use Rattle.dl_dump.proofs.range_dumping.RangeDumperVisitor.end.Goals as goal

pub returns-clause-heard : goal.returns-clause-heard
returns-clause-heard g c first start visits ranged header = tells_nothing ranged (of_end c.args._header) refl refl refl
