use Rattle.std.proofs.Common.{refl}
use Rattle.dl_lint.proofs.SequenceLemmas.{sequences_begin}
use Rattle.dl_lint.proofs.sequences_seen.SequencesSeen.begin_unit.Goals as goal

pub returns : goal.returns
returns c q visits unit lengths h knows =
    sequences_begin q c.args.self.now _ visits unit lengths h c.none-self.ensures refl knows
