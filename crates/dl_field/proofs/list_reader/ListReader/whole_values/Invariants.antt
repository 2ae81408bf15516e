use Rattle.std.proofs.Common.{◌≤◌, length}
use Rattle.dl_num.specs.declared.fixed.Order.{Order}
use Rattle.dl_table.specs.declared.form.Format.{Format}
use Rattle.dl_field.specs.ListPlace.{AmongList, list_cells}
use Rattle.dl_field.proofs.WholeRuns.{TakenUpTo}
use Rattle.dl_field.proofs.list_reader.ListReader.whole_values.Given as goal

abbrev pub invariant-loop-tail : goal.invariant-loop-tail
invariant-loop-tail l = record {
  within : length l.rest ≤ length l.fn.bytes;
  taken : (order : Order) (format : Format)
      → TakenUpTo order (AmongList format) list_cells l.fn.self l.fn.bytes l.rest l.self;
}

abbrev pub decreases-loop-tail : goal.decreases-loop-tail
decreases-loop-tail l = length l.rest
