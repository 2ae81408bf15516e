use Rattle.std.proofs.Common.{ℕ, suc, ◌+◌, arith, ap, ◌∙◌, subst, slice_get, ◌≡◌, Some, None}
use Rattle.std.specs.Prelude.{if◌then◌else◌, ◌==◌}
use Rattle.dl_rows.specs.declared.row.Row.{Row}
use Rattle.dl_buffers.specs.Gatherers.{row_after, unit_after}
use Rattle.dl_buffers.specs.Records.{row_record}
use Rattle.dl_buffers.specs.declared.record.RowRecord.{RowRecord}
use Rattle.dl_buffers.specs.AllCalls.{placed}
use Rattle.dl_buffers.proofs.AllLemmas.{nth, told_more}
use Rattle.dl_buffers.proofs.gathering.tell.Goals as goal

pub loop-answer-preserved : goal.loop-answer-preserved
loop-answer-preserved c =
    let l = c.loop-answer in
    let on : suc l.answer-index ≡ l.answer-index + 1 = omega arith in
    record {
      rows = λ i.
          subst (λ (k : ℕ). slice_get c.put.new.items i ≡ row_after c.args.answered.now k c.args.rows.now i) on
          (told_more row_record c.args.answered.now l.answer-index c.args.rows.now l.rows c.put.new.items
          l.invariant.rows (λ j. c.put.ensures j ∙ ap (λ (x : RowRecord).
          placed (if (nth c.args.answered.now l.answer-index).number == j then Some x else None) (slice_get l.rows j))
          c.of.ensures) i);
      offsets = λ i.
          subst (λ (k : ℕ). slice_get c.put-in-loop-answer.new.items i
          ≡ unit_after c.args.answered.now c.args.unit k c.args.units.now i) on
          (told_more (λ (r : Row). c.args.unit) c.args.answered.now l.answer-index c.args.units.now l.units
          c.put-in-loop-answer.new.items l.invariant.offsets c.put-in-loop-answer.ensures i);
    }
