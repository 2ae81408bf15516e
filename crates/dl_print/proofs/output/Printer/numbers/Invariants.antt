-- The numbers so far were printed.
use Rattle.std.proofs.Common.{take}
use Rattle.std.specs.List.{flat_map}
use Rattle.dl_print.specs.HeaderFields.{number_text}
use Rattle.dl_print.specs.Output.{PrintsMore}
use Rattle.dl_print.proofs.output.Printer.numbers.Given as goal

abbrev pub invariant-loop-number : goal.invariant-loop-number
invariant-loop-number g l =
    PrintsMore (g.W.Write.contents l.initial.output) (g.W.Write.contents l.output) l.initial.self l.self
    (flat_map number_text (take l.number-index l.numbers))
