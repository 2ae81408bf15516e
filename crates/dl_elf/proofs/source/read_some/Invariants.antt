use Rattle.std.proofs.Common.{◌≤◌, ◌-◌}
use Rattle.dl_elf.proofs.source.read_some.Given as goal

abbrev pub invariant-loop-n : goal.invariant-loop-n
invariant-loop-n g l = l.borne.count ≤ 1000

abbrev pub decreases-loop-n : goal.decreases-loop-n
decreases-loop-n g l = 1000 - l.borne.count
