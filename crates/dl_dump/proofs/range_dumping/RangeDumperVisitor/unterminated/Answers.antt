use Rattle.std.proofs.Common.{refl}
use Rattle.dl_sections.specs.Section.{of_open}
use Rattle.dl_dump.proofs.RangeLemmas.{tells_nothing}
use Rattle.dl_dump.proofs.range_dumping.RangeDumperVisitor.unterminated.Goals as goal

pub returns-clause-heard : goal.returns-clause-heard
returns-clause-heard g c first start visits ranged = tells_nothing ranged of_open refl refl refl
