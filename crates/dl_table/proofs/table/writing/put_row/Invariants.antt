-- The values so far are out.
use Rattle.std.proofs.Common.{map, take}
use Rattle.dl_table.specs.Held.{value_held}
use Rattle.dl_table.specs.Writing.{WroteMore}
use Rattle.dl_table.specs.Written.{entry_bytes}
use Rattle.dl_table.proofs.table.writing.put_row.Given as goal

abbrev pub invariant-loop-i : goal.invariant-loop-i
invariant-loop-i g l =
    WroteMore (g.W.Write.contents l.initial.output) (g.W.Write.contents l.output) l.initial.out l.out
    (entry_bytes l.encoding.order l.encoding.format (take l.i l.pairs) (take l.i (map (value_held l.pool) l.held)))
