use Rattle.std.proofs.Common.{length, ◌≤◌}
use Rattle.dl_object.proofs.FrontLemmas.{SoFar}
use Rattle.dl_object.proofs.sequence.sequence_at_front.Given as goal

abbrev pub invariant-loop-operation : goal.invariant-loop-operation
invariant-loop-operation l =
    record {
      within : length l.rest ≤ length l.bytes;
      so_far : SoFar l.order l.params l.bytes l.rest l.address;
    }

abbrev pub decreases-loop-operation : goal.decreases-loop-operation
decreases-loop-operation l = length l.rest
