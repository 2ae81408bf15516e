use Rattle.std.proofs.Common.{◌<◌, ◌≤◌, length}
use Rattle.dl_table.specs.Held.{values_end}
use Rattle.dl_field.specs.TableRuns.{AtPlace}
use Rattle.dl_field.proofs.TableRuns.{place_cells}
use Rattle.dl_field.proofs.WholeRuns.{TakenUpTo}
use Rattle.dl_field.proofs.table_reader.TableReader.values_from.Given as goal

abbrev pub invariant-loop-next : goal.invariant-loop-next
invariant-loop-next l = record {
  within : length l.rest ≤ length l.fn.bytes;
  in_row : l.at.column < length l.self.pairs.items;
  whole : values_end l.self.values.items ≤ length l.self.pool.items;
  taken : TakenUpTo l.fn.order (AtPlace l.fn.format) place_cells (l.fn.self, l.fn.first) l.fn.bytes l.rest (l.self, l.at);
}

abbrev pub decreases-loop-next : goal.decreases-loop-next
decreases-loop-next l = length l.rest
