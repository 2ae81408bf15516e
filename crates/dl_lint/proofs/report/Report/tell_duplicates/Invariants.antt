-- What was found of the first entries was told.
use Rattle.std.proofs.Common.{◌+◌, ◌-◌, ◌≤◌}
use Rattle.std.specs.Prelude.{flat_map}
use Rattle.std.specs.List.{range_with_len}
use Rattle.dl_table_rules.specs.Duplicates.{entries_of}
use Rattle.dl_table_rules.specs.Keeping.{IsOrderOf}
use Rattle.dl_table_rules.specs.TableFindings.{duplicate_at, duplicates_found}
use Rattle.dl_lint.proofs.TellLemmas.{Front}
use Rattle.dl_lint.proofs.report.Report.tell_duplicates.Given as goal

abbrev pub invariant-loop-place : goal.invariant-loop-place
invariant-loop-place g l =
    (l.place ≤ l.count)
    × (IsOrderOf l.order (entries_of l.header.files) → Front (g.W.Write.contents l.fn.output) (g.W.Write.contents l.output)
    l.fn.self l.self (duplicates_found l.unit l.header)
    (flat_map (duplicate_at l.unit l.header) (range_with_len (0 + l.place) (l.count - l.place))))

abbrev pub decreases-loop-place : goal.decreases-loop-place
decreases-loop-place g l = l.count - l.place
