use Rattle.std.proofs.Common.{◌-◌, length}
use Rattle.dl_info.proofs.KeptLemmas.{IsSoFar}
use Rattle.dl_info.proofs.abbreviations.Table.read.Given as goal

abbrev pub invariant-loop : goal.invariant-loop
invariant-loop l = IsSoFar l.table l.bytes (length l.bytes - l.counter) l.rest
