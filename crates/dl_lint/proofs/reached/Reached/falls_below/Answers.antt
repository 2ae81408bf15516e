use Rattle.std.proofs.Common.{◌∙◌}
use Rattle.dl_lint.proofs.KeptLemmas.{falls_below_last}
use Rattle.dl_lint.proofs.reached.Reached.falls_below.Goals as goal

pub returns-then-self : goal.returns-then-self
returns-then-self c visits is =
    c.is_below.ensures ∙ falls_below_last c.args.self.now visits c.args.row.now is c.if-self.true
