use Rattle.std.proofs.Common.{ap, length, length-append, arith}
use Rattle.dl_field.specs.ListPlace.{AmongList, list_cells}
use Rattle.dl_field.proofs.SameLists.{same_list_cells}
use Rattle.dl_field.proofs.WholeRuns.{run_none, run_on, run_ends, listed_value, list_kept}
use Rattle.dl_field.proofs.list_reader.ListReader.whole_values.Goals as goal

pub loop-tail-init : goal.loop-tail-init
loop-tail-init c = record {
  within = omega arith;
  taken = λ order format. run_none order (AmongList format) list_cells c.args.self.now c.args.bytes.now;
}

pub loop-tail-preserved : goal.loop-tail-preserved
loop-tail-preserved c =
    let i = c.loop-tail.invariant in
    let v = c.in-Some.ensures in
    record {
      within = omega (arith, i.within, ap length v.bytes_are, length-append v.front c.in-Some.tail.now);
      taken = λ order format.
          run_on order (AmongList format) list_cells c.args.self.now c.loop-tail.self c.whole_value.new.self
          c.args.bytes.now c.loop-tail.rest.now v.front c.in-Some.tail.now (i.taken order format) v.bytes_are v.some
          (listed_value order format c.loop-tail.self c.whole_value.new.self c.loop-tail.rest.now c.in-Some.tail.now v);
    }

pub returns-clause-values : goal.returns-clause-values
returns-clause-values c order format =
    run_ends order (AmongList format) list_cells c.args.self.now c.loop-tail.self c.whole_value.new.self
    c.args.bytes.now c.loop-tail.rest.now (c.loop-tail.invariant.taken order format)
    (list_kept format c.loop-tail.self c.whole_value.new.self c.in_default.ensures)
    (same_list_cells c.loop-tail.self c.whole_value.new.self c.in_default.ensures)
