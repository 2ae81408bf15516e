-- The pairs so far were printed.
use Rattle.std.proofs.Common.{take}
use Rattle.std.specs.List.{flat_map}
use Rattle.dl_print.specs.HeaderFields.{pair_text}
use Rattle.dl_print.specs.Output.{PrintsMore}
use Rattle.dl_print.proofs.output.Printer.pairs.Given as goal

abbrev pub invariant-loop-pair : goal.invariant-loop-pair
invariant-loop-pair g l =
    PrintsMore (g.W.Write.contents l.initial.output) (g.W.Write.contents l.output) l.initial.self l.self
    (flat_map pair_text (take l.pair-index l.pairs))
