-- What was found of the first values was told.
use Rattle.std.specs.Prelude.{flat_map, option_map}
use Rattle.dl_table.specs.EntryHeld.{entry_items}
use Rattle.dl_table.specs.ValuesLeft.{values_left}
use Rattle.dl_print.specs.ValueText.{Strings}
use Rattle.dl_table_rules.specs.Keeping.{AreEnds}
use Rattle.dl_table_rules.specs.TableFindings.{missing_entry, missing_item}
use Rattle.dl_lint.proofs.TellLemmas.{Front}
use Rattle.dl_lint.proofs.report.Report.tell_missing_at.Given as goal

abbrev pub invariant-loop-value : goal.invariant-loop-value
invariant-loop-value g l =
    (s : Strings) → AreEnds l.ends s.line_strings s.strings
    → Front (g.W.Write.contents l.fn.output) (g.W.Write.contents l.output) l.fn.self l.self
    (missing_entry s l.unit l.number (option_map entry_items l.entry))
    (flat_map (missing_item s l.unit l.number) (values_left l.value-iterator))
