use Rattle.std.proofs.Common.{refl}
use Rattle.dl_making.proofs.MakerLemmas.{forgets}
use Rattle.dl_making.proofs.maker.MakerAroundDamage.damaged.Goals as goal

pub returns : goal.returns
returns g c =
    forgets g.M.Memory.refuses c.args.self.now (record c.args.self.now { runs = c.forget_unit.new.self }) c.args._unit c.args._damage
    (record { memory = refl; code = refl; directories = refl; strings = refl }) refl refl refl
    c.forget_unit.ensures.count c.forget_unit.ensures.whole c.forget_unit.ensures.forgotten
