-- The rows so far are out.
use Rattle.std.proofs.Common.{take}
use Rattle.std.specs.List.{flat_map}
use Rattle.dl_table.specs.Held.{table_of}
use Rattle.dl_table.specs.Writing.{WroteMore}
use Rattle.dl_table.specs.Written.{entry_bytes}
use Rattle.dl_table.proofs.table.writing.put_rows.Given as goal

abbrev pub invariant-loop-i : goal.invariant-loop-i
invariant-loop-i g l =
    WroteMore (g.W.Write.contents l.initial.output) (g.W.Write.contents l.output) l.initial.out l.out
    (flat_map (entry_bytes l.encoding.order l.encoding.format l.pairs)
    (take l.i (table_of l.encoding.format l.pairs l.values l.pool).entries))
