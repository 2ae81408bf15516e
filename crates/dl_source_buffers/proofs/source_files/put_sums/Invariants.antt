-- The sums so far stand in the room.
use Rattle.dl_source_buffers.proofs.SourceLemmas.{Summed}
use Rattle.dl_source_buffers.proofs.source_files.put_sums.Given as goal

abbrev pub invariant-loop-sum : goal.invariant-loop-sum
invariant-loop-sum l = Summed l.source l.totals.sums.keys l.sum-iterator l.initial.room l.room l.at l.number
