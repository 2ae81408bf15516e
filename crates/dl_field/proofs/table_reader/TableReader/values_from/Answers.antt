use Rattle.std.proofs.Common.{ap, length, length-append, refl, ◌∙◌, arith}
use Rattle.dl_field.specs.TableMoves.{AmongTable}
use Rattle.dl_field.specs.TablePlace.{reader_cells}
use Rattle.dl_field.specs.TableRuns.{AtPlace}
use Rattle.dl_field.proofs.SameTables.{same_cells}
use Rattle.dl_field.proofs.TableRuns.{place_cells, place_ends, place_goes}
use Rattle.dl_field.proofs.WholeRuns.{run_none, run_on, run_between}
use Rattle.dl_field.proofs.table_reader.TableReader.values_from.Goals as goal

pub loop-next-init : goal.loop-next-init
loop-next-init c = record {
  within = omega arith;
  in_row = c.requires.in_row;
  whole = c.requires.whole;
  taken = run_none c.args.order (AtPlace c.args.format) place_cells (c.args.self.now, c.args.first) c.args.bytes.now;
}

pub loop-next-preserved : goal.loop-next-preserved
loop-next-preserved c =
    let i = c.loop-next.invariant in
    let v = c.in-Some.ensures in
    let old = c.loop-next.self in
    let new = c.value_at.new.self in
    let at = c.loop-next.at in
    let to = c.in-Some.next in
    record {
      within = omega (arith, i.within, ap length v.bytes_are, length-append v.front c.in-Some.tail.now);
      in_row = v.in_row;
      whole = v.whole;
      taken = run_on c.args.order (AtPlace c.args.format) place_cells (c.args.self.now, c.args.first) (old, at) (new, to)
          c.args.bytes.now c.loop-next.rest.now v.front c.in-Some.tail.now i.taken v.bytes_are v.some
          (place_ends c.args.order c.args.format old new at to c.loop-next.rest.now c.in-Some.tail.now v);
    }

pub returns-clause-values : goal.returns-clause-values
returns-clause-values c = λ begins.
    let old = c.args.self.now in
    let mid = c.loop-next.self in
    let at = c.loop-next.at in
    let order = c.args.order in
    let format = c.args.format in
    let new = c.begin_value.new.self in
    run_between order (AtPlace format) (AmongTable order format) place_cells reader_cells (old, c.args.first) (mid, at)
    old new c.args.bytes.now c.loop-next.rest.now c.loop-next.invariant.taken begins refl
    (place_goes order format mid c.value_at.new.self new at c.in_default.ensures (c.begin_value.ensures.goes)
    c.begin_value.ensures.going)
    (c.begin_value.ensures.cells ∙ same_cells mid c.value_at.new.self c.in_default.ensures)
