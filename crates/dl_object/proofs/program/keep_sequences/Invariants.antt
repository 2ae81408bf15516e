use Rattle.std.proofs.Common.{◌≡◌, ◌≤◌, ◌-◌, length}
use Rattle.dl_object.proofs.ProgramLemmas.{Replaced}
use Rattle.dl_object.proofs.program.keep_sequences.Given as goal

abbrev pub invariant-loop-sequence : goal.invariant-loop-sequence
invariant-loop-sequence l =
    record {
      len : length l.program ≡ length l.fn.program;
      within : l.at ≤ length l.program;
      so_far : Replaced l.order l.params l.wanted.places.now l.wanted.section l.offset l.fn.program l.program l.at;
    }

abbrev pub decreases-loop-sequence : goal.decreases-loop-sequence
decreases-loop-sequence l = length l.program - l.at
