use Rattle.std.proofs.Common.{subst, sym}
use Rattle.dl_sequence_rules.specs.Alone.{AreAlone, AreStretches}
use Rattle.dl_sequence_rules.proofs.AloneLemmas.{are_alone}
use Rattle.dl_sequence_rules.proofs.crowding.crowded.Goals as goal

pub without-requires : goal.without-requires
without-requires g c =
    let sequences = c.args.sequences.now in
    let stretches = c.as_slice.result.now in
    let are = subst (AreStretches sequences) (sym c.as_slice.ensures.value) c.in_ok-stretches.ensures.stretches in
    let alone = c.in_ok-alone.ensures in
    subst (AreAlone sequences) (sym c.as_slice-2.ensures.value)
    (are_alone sequences stretches are c.in_ok-alone.alone.items alone.count alone.marks)
