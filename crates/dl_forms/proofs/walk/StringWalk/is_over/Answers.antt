use Rattle.dl_forms.proofs.WalkLemmas.{over_at, unnamed_at}
use Rattle.dl_forms.proofs.walk.StringWalk.is_over.Goals as goal

pub returns-in-Named-clause-settled : goal.returns-in-Named-clause-settled
returns-in-Named-clause-settled c b rest stands said =
    let walk = c.args.self.now in over_at walk.dialect walk.state b stands c.in-Named.is rest

pub returns-in_default-clause-named : goal.returns-in_default-clause-named
returns-in_default-clause-named c b stands named =
    let walk = c.args.self.now in absurd (unnamed_at walk.dialect walk.state b stands c.in_default.not-Named named)
