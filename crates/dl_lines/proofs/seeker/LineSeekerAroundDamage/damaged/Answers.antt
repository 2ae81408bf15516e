use Rattle.dl_lines.proofs.AroundLemmas.{damage_is_told}
use Rattle.dl_lines.proofs.seeker.LineSeekerAroundDamage.damaged.Goals as goal

pub returns : goal.returns
returns g c =
    damage_is_told g.M.Memory.refuses c.args.self.now c.begin_unit.new.self c.args._unit c.args._damage c.begin_unit.ensures.searches
    c.begin_unit.ensures.live c.begin_unit.ensures.statements c.begin_unit.ensures.same
