-- The paths so far were checked.
use Rattle.std.proofs.Common.{map, take}
use Rattle.dl_several.specs.Checks.{IsWorst}
use Rattle.dl_several.proofs.several.check_paths.Given as goal

abbrev pub invariant-loop-path : goal.invariant-loop-path
invariant-loop-path g l =
    IsWorst g.C.CheckFiles.checks (map (λ path. path.now) (take l.path-index l.paths)) l.worst l.initial.checker
    l.checker
