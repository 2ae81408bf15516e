use Rattle.std.proofs.Common.{refl}
use Rattle.std.proofs.lemmas.Result.{err_from_is_err_and}
use Rattle.dl_dump.proofs.RangeRowLemmas.{row_ended, row_held, row_lost, row_refused}
use Rattle.dl_dump.proofs.range_dumping.RangeDumperVisitor.row.Goals as goal

pub returns-in_err-hold_row-clause-heard : goal.returns-in_err-hold_row-clause-heard
returns-in_err-hold_row-clause-heard g c first start visits ranged =
    let e = err_from_is_err_and c.from_residual.result c.from_residual.ensures.1 in
    let not_held = c.in_err-hold_row.ensures in
    rw (e.1, e.2) (row_refused ranged c.args.header.now c.args.row.now c.hold_row.new.self not_held.0 not_held.1 not_held.3 _
    not_held.2)

pub returns-then-not-row-clause-heard : goal.returns-then-not-row-clause-heard
returns-then-not-row-clause-heard g c first start visits ranged =
    let now_held = c.in_ok-hold_row.ensures in
    row_held ranged c.args.header.now c.args.row.now c.hold_row.new.self now_held.0 now_held.1 now_held.2 c.if-not-row.true

pub returns-in_err-end_sequence-clause-heard : goal.returns-in_err-end_sequence-clause-heard
returns-in_err-end_sequence-clause-heard g c first start visits ranged =
    let e = err_from_is_err_and c.from_residual-in_err-end_sequence.result c.from_residual-in_err-end_sequence.ensures.1 in
    let now_held = c.in_ok-hold_row.ensures in
    rw (e.1, e.2) (row_lost ranged c.args.header.now c.args.row.now c.hold_row.new.self now_held.0 now_held.1 now_held.2
    c.if-not-row.false c.end_sequence.new.self (g.W.Write.contents c.end_sequence.new.output) c.of.result c.of.ensures _
    c.in_err-end_sequence.ensures.ended.printed)

pub returns-clause-heard : goal.returns-clause-heard
returns-clause-heard g c first start visits ranged =
    let now_held = c.in_ok-hold_row.ensures in
    row_ended ranged c.args.header.now c.args.row.now c.hold_row.new.self now_held.0 now_held.1 now_held.2
    c.if-not-row.false c.end_sequence.new.self (g.W.Write.contents c.end_sequence.new.output) c.of.result c.of.ensures
    c.in_ok-end_sequence.ensures.ended.printed (c.in_ok-end_sequence.ensures.ended.ended refl)
