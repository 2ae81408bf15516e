-- A failed write appends nothing, and each adds to those that failed in a row.
use Rattle.std.proofs.Common.{◌<◌, ◌≤◌, ◌-◌}
use Rattle.std.specs.Io.KnownBytes.{Keeps}
use Rattle.dl_table.proofs.counted.write_some.Given as goal

abbrev pub invariant-loop-n : goal.invariant-loop-n
invariant-loop-n g l = record {
  kept : Keeps (g.W.Write.contents l.initial.output) (g.W.Write.contents l.output);
  few : l.interrupted ≤ 1000;
  failed : 0 < l.interrupted → g.W.Destination.failed l.output l.interrupted;
}

abbrev pub decreases-loop-n : goal.decreases-loop-n
decreases-loop-n g l = 1000 - l.interrupted
