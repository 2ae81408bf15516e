use Rattle.dl_dump.proofs.UnitLemmas.{ends_here, ends_other}
use Rattle.dl_dump.proofs.unit_dumping.UnitDumperVisitor.end.Goals as goal

pub returns-then-self-clause-heard : goal.returns-then-self-clause-heard
returns-then-self-clause-heard g c first start visits showed header = ends_here showed c.args._header c.if-self.true

pub returns-clause-heard : goal.returns-clause-heard
returns-clause-heard g c first start visits showed header = ends_other showed c.args._header c.if-self.false
