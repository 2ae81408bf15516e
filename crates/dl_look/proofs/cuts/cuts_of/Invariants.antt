use Rattle.std.proofs.Common.{◌≤◌, length, vec_capacity}
use Rattle.dl_look.proofs.CutLemmas.{SoFar}
use Rattle.dl_look.proofs.cuts.cuts_of.Given as goal

abbrev pub invariant-loop-i : goal.invariant-loop-i
invariant-loop-i g l =
    record {
      cuts : SoFar l.spans l.slots.items l.cuts.items l.i;
      capacity : length l.slots.items ≤ vec_capacity l.cuts;
    }
