use Rattle.std.proofs.Common.{refl}
use Rattle.dl_forms.proofs.WalkLemmas.{named_now, unnamed_at}
use Rattle.dl_forms.proofs.walk.StringWalk.names_str.Goals as goal

pub returns-in-Named : goal.returns-in-Named
returns-in-Named c b stands =
    let walk = c.args.self.now in (λ said. named_now walk.dialect walk.state b stands c.in-Named.is, λ named. refl)

pub returns-in_default : goal.returns-in_default
returns-in_default c b stands =
    let walk = c.args.self.now in (
      λ said. absurd cc,
      λ named. absurd (unnamed_at walk.dialect walk.state b stands c.in_default.not-Named named),
    )
