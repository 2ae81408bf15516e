use Rattle.std.proofs.Common.{arith}
use Rattle.dl_stretch.specs.Made.{no_run}
use Rattle.dl_stretch.specs.Runs.{number_in}
use Rattle.dl_stretch.proofs.RenumberLemmas.{one_done, one_left}
use Rattle.dl_stretch.proofs.sequence.renumber_all.Goals as goal

pub loop-run-preserved : goal.loop-run-preserved
loop-run-preserved c =
    let l = c.loop-run in
    let number = number_in c.args.numbers.now c.args.other in
    record {
      done = one_done number l.run-items c.args.runs.now l.run-index (omega arith) (omega arith) no_run c.renumbered.result
          c.renumbered.ensures l.invariant.done l.invariant.left;
      left = one_left number l.run-items c.args.runs.now l.run-index (omega arith) (omega arith) no_run c.renumbered.result
          c.renumbered.ensures l.invariant.done l.invariant.left;
    }
