use Rattle.std.proofs.Common.{ap, ◌∙◌}
use Rattle.std.specs.Prelude.{slice_set}
use Rattle.dl_buffers.specs.declared.record.RowRecord.{RowRecord}
use Rattle.dl_buffers.proofs.UnitCallLemmas.{row_counted, row_kept, row_passed}
use Rattle.dl_buffers.proofs.listing.RowRoomUnitSink.row.Goals as goal

pub returns-then-place-self : goal.returns-then-place-self
returns-then-place-self c first units rows (none, going, told) = (
  none,
  going,
  record {
    same = told.same;
    kept = λ small.
        ap (λ (x : RowRecord). slice_set c.args.self.now.rows.now c.args.self.now.count x) c.of.ensures
        ∙ row_kept first.rows.now c.args.self.now.rows.now c.args.self.now.count rows c.args.row.now told.kept told.count
        small c.if-place-self.true;
    count = λ small.
        row_counted first.rows.now c.args.self.now.rows.now c.args.self.now.count rows c.args.row.now told.kept told.count
        small _ c.saturating_add-self.ensures;
  },
)

pub returns-else-place-self : goal.returns-else-place-self
returns-else-place-self c first units rows (none, going, told) = (
  none,
  going,
  record {
    same = told.same;
    kept = λ small.
        row_passed first.rows.now c.args.self.now.rows.now c.args.self.now.count rows c.args.row.now told.kept told.count
        small c.if-place-self.false;
    count = λ small.
        row_counted first.rows.now c.args.self.now.rows.now c.args.self.now.count rows c.args.row.now told.kept told.count
        small _ c.saturating_add-self.ensures;
  },
)
