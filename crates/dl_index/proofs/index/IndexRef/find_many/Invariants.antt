use Rattle.std.proofs.Common.{◌-◌, ◌≤◌, length}
use Rattle.dl_index.specs.Shown.{bytes_of}
use Rattle.dl_index.proofs.ManyLemmas.{Done}
use Rattle.dl_index.proofs.index.IndexRef.find_many.Given as goal

abbrev pub invariant-loop-i : goal.invariant-loop-i
invariant-loop-i l = record {
  within : l.i ≤ length l.addresses;
  done : Done (bytes_of l.self) l.addresses l.found l.i;
}

abbrev pub decreases-loop-i : goal.decreases-loop-i
decreases-loop-i l = length l.addresses - l.i

abbrev pub invariant-loop-k : goal.invariant-loop-k
invariant-loop-k l = Done (bytes_of l.self) l.addresses l.found l.k
