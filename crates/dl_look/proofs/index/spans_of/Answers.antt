use Rattle.std.proofs.Common.{◌+◌, ◌<◌, length, take, get_or, arith, ap}
use Rattle.std.proofs.lemmas.List.{take_more, length-take-le}
use Rattle.dl_look.specs.FinderRows.{unended}
use Rattle.dl_look.proofs.LastUpto.{no_row}
use Rattle.dl_look.proofs.SpansSoFar.{goes_on, ends}
use Rattle.dl_memory.proofs.RefusalLemmas.{wants_list}
use Rattle.dl_look.proofs.SpanLemmas.{few_spans}
use Rattle.dl_look.proofs.index.spans_of.Goals as goal
use Rattle.dl_look.proofs.index.spans_of.Goals.{then-row+in_ok-push, else-row}

pub loop-i-preserved : goal.loop-i-preserved
loop-i-preserved g c =
    let rows = c.args.rows.now in
    let l = c.loop-i in
    let lt : l.i < length rows = omega arith in
    let r = get_or rows l.i no_row in
    let runs = c.extended-extended.ensures (unended (take l.i rows)) r l.invariant.run_is c.of.ensures in
    let more = take_more rows l.i no_row lt in
    let step = goes_on (take l.i rows) l.spans.items l.start l.run l.invariant r c.extended-extended.result runs in
    let end =
    ends (take l.i rows) l.spans.items l.start l.run l.invariant r c.extended-extended.result runs l.i
    (length-take-le l.i rows (omega arith)) in
    elim c.if-row.branch [
      | then-row+in_ok-push w ↦ (let pushed = w.in_ok-push.ensures.items in
          rw (w.spans-is, w.start-is, w.run-is, more, pushed) (end w.if-row.true))
      | else-row w ↦ rw (w.spans-is, w.start-is, w.run-is, more) (step w.if-row.false)
    ]

pub returns-in_err-push-clause-refused : goal.returns-in_err-push-clause-refused
returns-in_err-push-clause-refused g c =
    let l = c.loop-i in
    let rows = c.args.rows.now in
    let lt : l.i < length rows = omega arith in
    let few = ap length l.invariant.kept_is in
    let fewer = few_spans (take l.i rows) in
    let taken = length-take-le l.i rows (omega arith) in
    wants_list _ _ (length l.spans.items + 1) _ (omega arith) c.in_err-push.ensures.refused
