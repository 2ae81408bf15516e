use Rattle.dl_addr.proofs.LocatorLemmas.{forgets}
use Rattle.dl_addr.proofs.locating.LocatorAroundDamage.damaged.Goals as goal

pub returns : goal.returns
returns g c = forgets g.M.Memory.refuses c.args.self.now _ _ c.args._unit c.args._damage (search) (search) (search)
