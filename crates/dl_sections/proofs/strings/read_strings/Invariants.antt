-- What was read stands in the vector.
use Rattle.std.proofs.Common.{◌-◌, ◌≤◌, vec_len}
use Rattle.std.specs.Io.KnownBytes.{Consumes}
use Rattle.dl_input.specs.Failing.{Became}
use Rattle.dl_sections.proofs.strings.read_strings.Given as goal

abbrev pub invariant-loop-piece : goal.invariant-loop-piece
invariant-loop-piece g l = record {
  read : Consumes (g.R.Read.remaining l.initial.input) (g.R.Read.remaining l.input) l.bytes.items;
  follows : (first : _) → Became g.R.Source.follows first l.initial.input → Became g.R.Source.follows first l.input;
  within : vec_len l.bytes ≤ l.limit;
}

abbrev pub decreases-loop-piece : goal.decreases-loop-piece
decreases-loop-piece g l = l.limit - vec_len l.bytes
