-- A failed read consumes nothing, and each adds to those that failed in a row.
use Rattle.std.proofs.Common.{◌≡◌, ◌≤◌, ◌+◌, ◌-◌, ℕ, length}
use Rattle.std.specs.Io.KnownBytes.{Keeps}
use Rattle.dl_input.proofs.input.read_some.Given as goal

abbrev pub invariant-loop-n : goal.invariant-loop-n
invariant-loop-n g l = record {
  len : length l.buffer ≡ length l.initial.buffer;
  kept : Keeps (g.R.Read.remaining l.initial.reader) (g.R.Read.remaining l.reader);
  few : l.interrupted ≤ 1000;
  follows : (first : _) (failed : ℕ) → g.R.Source.follows first failed l.initial.reader
      → g.R.Source.follows first (failed + l.interrupted) l.reader;
}

abbrev pub decreases-loop-n : goal.decreases-loop-n
decreases-loop-n g l = 1000 - l.interrupted
