-- What was found of the first entries was told.
use Rattle.std.proofs.Common.{◌+◌, ◌-◌, ◌≤◌}
use Rattle.std.specs.Prelude.{flat_map}
use Rattle.std.specs.List.{range_with_len}
use Rattle.dl_print.specs.ValueText.{Strings}
use Rattle.dl_table_rules.specs.Keeping.{AreEnds}
use Rattle.dl_table_rules.specs.TableFindings.{missing_at, missing_in}
use Rattle.dl_lint.specs.Telling.{entry_numbered}
use Rattle.dl_lint.proofs.TellLemmas.{Front}
use Rattle.dl_lint.proofs.report.Report.tell_missing_of.Given as goal

abbrev pub invariant-loop-place : goal.invariant-loop-place
invariant-loop-place g l =
    (l.place ≤ l.count)
    × ((s : Strings) → AreEnds l.ends s.line_strings s.strings
    → Front (g.W.Write.contents l.fn.output) (g.W.Write.contents l.output) l.fn.self l.self
    (missing_in s l.unit (entry_numbered l.are_files) l.first l.table)
    (flat_map (missing_at s l.unit (entry_numbered l.are_files) l.first l.table) (range_with_len (0 + l.place) (l.count - l.place))))

abbrev pub decreases-loop-place : goal.decreases-loop-place
decreases-loop-place g l = l.count - l.place
