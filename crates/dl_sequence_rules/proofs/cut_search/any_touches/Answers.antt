use Rattle.std.proofs.Common.{◌∙◌, sym}
use Rattle.dl_sequence_rules.proofs.OwnerLemmas.{any_of_owner}
use Rattle.dl_sequence_rules.proofs.cut_search.any_touches.Goals as goal

pub returns-then-owner_touches-clause-some : goal.returns-then-owner_touches-clause-some
returns-then-owner_touches-clause-some c is =
    any_of_owner c.args.range c.args.sequences.now _ (sym c.owner_touches.ensures ∙ c.if-owner_touches.true)
