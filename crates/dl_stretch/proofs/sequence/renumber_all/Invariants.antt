use Rattle.std.proofs.Common.{◌≡◌, map, take, drop}
use Rattle.dl_stretch.specs.Renumbered.{renumbered_run}
use Rattle.dl_stretch.specs.Runs.{number_in}
use Rattle.dl_stretch.proofs.sequence.renumber_all.Given as goal

abbrev pub invariant-loop-run : goal.invariant-loop-run
invariant-loop-run l = record {
  done : take l.run-index l.run-items ≡ map (renumbered_run (number_in l.numbers l.other)) (take l.run-index l.fn.runs);
  left : drop l.run-index l.run-items ≡ drop l.run-index l.fn.runs;
}
