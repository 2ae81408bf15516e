use Rattle.dl_lint.proofs.SequenceLemmas.{sequences_on}
use Rattle.dl_lint.proofs.sequences_seen.SequencesSeen.row.Goals as goal

pub returns-then-not-row-clause-knows : goal.returns-then-not-row-clause-knows
returns-then-not-row-clause-knows g c visits h knows is at =
    sequences_on c.args.question.now visits h c.args.row.now c.args.self.now c.if-not-row.true knows
