use Rattle.std.proofs.Common.{refl}
use Rattle.dl_sources.proofs.ListingLemmas.{forgets}
use Rattle.dl_sources.proofs.lister.ListerAroundDamage.damaged.Goals as goal

pub returns : goal.returns
returns g c =
    forgets g.M.Memory.refuses c.args.self.now (record c.args.self.now { counts = c.none.result }) c.args._unit c.args._damage
    (record { memory = refl; strings = refl; question = refl }) refl refl refl c.none.ensures
