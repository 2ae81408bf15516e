use Rattle.std.proofs.Common.{◌∷◌, [], ap, ◌∙◌}
use Rattle.std.specs.Map.Iter.{deref}
use Rattle.std.proofs.lemmas.Map.Iter.{rest_more}
use Rattle.dl_source_buffers.specs.declared.source_files.SourceRecord.{SourceRecord}
use Rattle.dl_source_buffers.proofs.SourceLemmas.{counted_all, summed_all, summed_more, summed_none}
use Rattle.dl_source_buffers.proofs.source_files.put_sums.Goals as goal

pub loop-sum-init : goal.loop-sum-init
loop-sum-init c = summed_none c.args.source c.args.totals.now.sums.keys c.into_iter-sum-iterator.result c.args.room.now c.args.at
    c.into_iter-sum-iterator.ensures.into_iter_gives.0

pub loop-sum-preserved : goal.loop-sum-preserved
loop-sum-preserved c =
    let l = c.loop-sum in
    summed_more c.args.source c.args.totals.now.sums.keys l.sum-iterator c.args.room.now l.room c.args.at l.number l.invariant
    c.in-Some.sum.now c.next.new.self
    (rest_more deref l.sum-iterator c.next.new.self c.next.result c.in-Some.sum c.in-Some.is c.next.ensures.steps)
    c.add-number.new.room c.add-number.result c.from_ref.result.now
    (c.from_ref.ensures.value ∙ ap (λ (r : SourceRecord). r ∷ []) c.with_sum-told.ensures)
    c.add-number.ensures.written c.add-number.ensures.count

pub returns-clause-written : goal.returns-clause-written
returns-clause-written c =
    let l = c.loop-sum in
    summed_all c.args.source c.args.totals.now.sums.keys l.sum-iterator c.args.room.now l.room c.args.at l.number l.invariant
    c.in-None.ensures.steps.0

pub returns-clause-count : goal.returns-clause-count
returns-clause-count c =
    let l = c.loop-sum in
    counted_all c.args.source c.args.totals.now.sums.keys l.sum-iterator c.args.room.now l.room c.args.at l.number l.invariant
    c.in-None.ensures.steps.0
