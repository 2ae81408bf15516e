-- What was found of the first files was told.
use Rattle.std.proofs.Common.{◌+◌, ◌-◌, ◌≤◌}
use Rattle.std.specs.Prelude.{flat_map}
use Rattle.std.specs.List.{range_with_len}
use Rattle.dl_table_rules.specs.HeaderFindings.{directories_found, directory_of_file}
use Rattle.dl_lint.proofs.TellLemmas.{Front}
use Rattle.dl_lint.proofs.report.Report.tell_directories.Given as goal

abbrev pub invariant-loop-entry : goal.invariant-loop-entry
invariant-loop-entry g l =
    (l.entry ≤ l.count)
    × Front (g.W.Write.contents l.fn.output) (g.W.Write.contents l.output) l.fn.self l.self
    (directories_found l.unit l.header)
    (flat_map (directory_of_file l.unit l.header) (range_with_len (l.first + l.entry) (l.count - l.entry)))

abbrev pub decreases-loop-entry : goal.decreases-loop-entry
decreases-loop-entry g l = l.count - l.entry
