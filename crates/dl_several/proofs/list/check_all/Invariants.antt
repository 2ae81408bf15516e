-- The paths so far were checked, and the others are left.
use Rattle.std.proofs.Common.{◌≡◌, ℕ, List, ◌++◌, length}
use Rattle.dl_several.specs.Checks.{IsWorst}
use Rattle.dl_several.specs.Lists.{AtPath, paths_in}
use Rattle.dl_several.proofs.list.check_all.Given as goal

abbrev pub invariant-loop-left : goal.invariant-loop-left
invariant-loop-left g l =
    (done : List (List ℕ)) × (paths_in l.fn.end l.list ≡ done ++ paths_in l.fn.end l.left)
    × IsWorst (AtPath g.C.CheckFiles.checks g.C.CheckFiles.refuses) done l.worst l.initial.checker l.checker

abbrev pub decreases-loop-left : goal.decreases-loop-left
decreases-loop-left g l = length l.left
