use Rattle.std.proofs.Common.{subst, take, length, refl, arith, sym, ◌∙◌, ap, None}
use Rattle.std.specs.List.{AllByRecursion}
use Rattle.std.proofs.lemmas.List.{take_more, take_all, length-take-le}
use Rattle.dl_table.proofs.SoundLemmas.{all_push}
use Rattle.dl_emit.specs.Laws.{IsRow}
use Rattle.dl_emit.proofs.ProgramLemmas.{row_in_range, row_out_of_range, refused_rows, no_row_left, counts_more}
use Rattle.dl_emit.proofs.ProgramLemmas.{counts_all}
use Rattle.dl_emit.proofs.unit.program_len.Goals as goal

pub loop-i-init : goal.loop-i-init
loop-i-init c = record { in_range = refl; ranged = tt; counted = (0, refl, omega arith) }

pub returns-then-not-is_in_range-clause-err : goal.returns-then-not-is_in_range-clause-err
returns-then-not-is_in_range-clause-err c =
    let out =
    row_out_of_range c.args.params.now c.args.rows.now c.loop-i.i _ c.loop-i-test.true
    (sym c.is_in_range.ensures.value ∙ c.if-not-is_in_range.true) in
    refused_rows c.args.params.now c.args.rows.now _ c.if-params-ne5.false c.if-params-ne13.false
    (sym c.loop-i.invariant.in_range ∙ out)

pub loop-i-preserved : goal.loop-i-preserved
loop-i-preserved c =
    let h = c.args.params.now in
    let rows = c.args.rows.now in
    let i = c.loop-i.i in
    let bytes =
    sym (length-take-le c.put_row-end.result c.put_row-end.new.buffer c.put_row-end.ensures.fits)
    ∙ ap length c.put_row-end.ensures.put in
    record {
      in_range =
          row_in_range h rows i _ c.loop-i-test.true (sym c.is_in_range.ensures.value ∙ c.if-not-is_in_range.false)
          ∙ c.loop-i.invariant.in_range;
      ranged =
          subst (AllByRecursion IsRow) (sym (take_more rows i _ c.loop-i-test.true))
          (all_push IsRow (take i rows) _ c.loop-i.invariant.ranged c.is_in_range.ensures.row);
      counted =
          rw c.keep.ensures
          (counts_more h rows c.loop-i.len c.saturating_add-len.result c.put_row-end.result i _ c.loop-i.before
          c.loop-i-test.true bytes c.saturating_add-len.ensures c.loop-i.invariant.counted);
    }

pub returns-clause-ok : goal.returns-clause-ok
returns-clause-ok c =
    refused_rows c.args.params.now c.args.rows.now None c.if-params-ne5.false c.if-params-ne13.false
    (sym c.loop-i.invariant.in_range
    ∙ no_row_left c.args.params.now c.args.rows.now c.loop-i.i c.loop-i-test.false)

pub returns-clause-len : goal.returns-clause-len
returns-clause-len c =
    counts_all c.args.params.now c.args.rows.now c.loop-i.len c.loop-i.i c.loop-i.before c.loop-i-test.false
    c.loop-i.invariant.counted

pub returns-clause-rows : goal.returns-clause-rows
returns-clause-rows c =
    subst (AllByRecursion IsRow) (take_all c.loop-i.i c.args.rows.now c.loop-i-test.false) c.loop-i.invariant.ranged
