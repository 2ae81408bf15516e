-- The first `out` bytes are out.
use Rattle.std.proofs.Common.{◌-◌, ◌≤◌, length, take}
use Rattle.std.specs.Io.KnownBytes.{Appends}
use Rattle.dl_table.proofs.counted.write_all.Given as goal

abbrev pub invariant-loop-out : goal.invariant-loop-out
invariant-loop-out g l = record {
  within : l.out ≤ length l.bytes;
  written : Appends (g.W.Write.contents l.initial.output) (g.W.Write.contents l.output) (take l.out l.bytes);
}

abbrev pub decreases-loop-out : goal.decreases-loop-out
decreases-loop-out g l = length l.bytes - l.out
