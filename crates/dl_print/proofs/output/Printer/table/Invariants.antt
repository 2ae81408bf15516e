-- The entries so far were printed.
use Rattle.std.proofs.Common.{take}
use Rattle.dl_print.specs.HeaderText.{entry_lines}
use Rattle.dl_print.specs.Output.{PrintsMore}
use Rattle.dl_print.specs.ValueText.{strings_of}
use Rattle.dl_print.proofs.output.Printer.table.Given as goal

abbrev pub invariant-loop-i : goal.invariant-loop-i
invariant-loop-i g l =
    PrintsMore (g.W.Write.contents l.initial.output) (g.W.Write.contents l.output) l.initial.self l.self
    (entry_lines (strings_of l.strings) l.name l.table.pairs l.first (take l.i l.table.entries))
