use Rattle.dl_head.proofs.TableSpellings.{fresh_stands}
use Rattle.dl_head.proofs.reader.HeadReader.start_unit.Goals as goal

pub invariant_of-self-clause-read : goal.invariant_of-self-clause-read
invariant_of-self-clause-read c = fresh_stands c.args.self.now.dialect.order c.args.format c.args.self.now.table
    c.requires.fresh
