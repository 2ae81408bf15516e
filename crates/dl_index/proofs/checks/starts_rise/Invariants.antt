use Rattle.std.proofs.Common.{◌≡◌, ◌-◌}
use Rattle.dl_index.specs.Entries.{entry}
use Rattle.dl_index.specs.LookUp.{Rise}
use Rattle.dl_index.proofs.checks.starts_rise.Given as goal

abbrev pub invariant-loop-k : goal.invariant-loop-k
invariant-loop-k l = record { rise : Rise (entry l.starts) l.k; last : l.last ≡ entry l.starts (l.k - 1) }
