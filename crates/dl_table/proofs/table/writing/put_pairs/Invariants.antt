-- The pairs so far are out.
use Rattle.std.proofs.Common.{take}
use Rattle.std.specs.List.{flat_map}
use Rattle.dl_table.specs.Writing.{WroteMore}
use Rattle.dl_table.specs.Written.{pair_bytes}
use Rattle.dl_table.proofs.table.writing.put_pairs.Given as goal

abbrev pub invariant-loop-pair : goal.invariant-loop-pair
invariant-loop-pair g l =
    WroteMore (g.W.Write.contents l.initial.output) (g.W.Write.contents l.output) l.initial.out l.out
    (flat_map pair_bytes (take l.pair-index l.pairs))
