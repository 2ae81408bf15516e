use Rattle.std.proofs.Common.{◌≡◌, ◌-◌, ◌≤◌, length}
use Rattle.dl_index.specs.Shown.{bytes_of}
use Rattle.dl_index_buffers.proofs.LocatedLemmas.{Done}
use Rattle.dl_index_buffers.proofs.finding.locate_all.Given as goal

abbrev pub invariant-loop-i : goal.invariant-loop-i
invariant-loop-i l = record {
  within : l.i ≤ length l.addresses;
  len : length l.locations ≡ length l.addresses;
  done : Done (bytes_of l.index) l.addresses l.locations l.i;
}

abbrev pub decreases-loop-i : goal.decreases-loop-i
decreases-loop-i l = length l.addresses - l.i

abbrev pub invariant-loop-k : goal.invariant-loop-k
invariant-loop-k l = record {
  len : length l.locations ≡ length l.addresses;
  done : Done (bytes_of l.index) l.addresses l.locations l.k;
}
