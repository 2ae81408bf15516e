-- What was found of the first sequences was told.
use Rattle.std.proofs.Common.{◌-◌, ◌≤◌, [], drop, take}
use Rattle.dl_sequence_rules.specs.Keeping.{IsCoverage}
use Rattle.dl_sequence_rules.specs.SequenceFindings.{overlaps_after}
use Rattle.dl_lint.proofs.TellLemmas.{Front}
use Rattle.dl_lint.proofs.report.Report.tell_overlaps.Given as goal

abbrev pub invariant-loop-place : goal.invariant-loop-place
invariant-loop-place g l =
    (l.place ≤ l.count)
    × (IsCoverage l.coverage l.sequences
    → Front (g.W.Write.contents l.fn.output) (g.W.Write.contents l.output) l.fn.self l.self
    (overlaps_after [] l.sequences) (overlaps_after (take l.place l.sequences) (drop l.place l.sequences)))

abbrev pub decreases-loop-place : goal.decreases-loop-place
decreases-loop-place g l = l.count - l.place
