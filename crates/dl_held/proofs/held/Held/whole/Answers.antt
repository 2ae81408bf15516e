use Rattle.dl_held.proofs.HoldingLemmas.{all_held}
use Rattle.dl_held.proofs.held.Held.whole.Goals as goal

pub returns-else-self-clause-all : goal.returns-else-self-clause-all
returns-else-self-clause-all g c = all_held g.K.Refusing.refuses c.args.self.bytes.items c.args.self.written.bytes c.args.self.refused c.if-self.false c.args.self.sound
