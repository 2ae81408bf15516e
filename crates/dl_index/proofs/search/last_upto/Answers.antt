use Rattle.std.proofs.Common.{◌+◌, ◌/◌, ap, ◌∙◌}
use Rattle.dl_index.proofs.SearchLemmas.{goes_on}
use Rattle.dl_index.proofs.search.last_upto.Goals as goal

pub loop-left-preserved : goal.loop-left-preserved
loop-left-preserved g c =
    let l = c.loop-left in
    let a = l.invariant in
    let start = g.T.Starts.start c.args.starts.now in
    let e = c.at.ensures in
    let found = e.value ∙ ap (λ f. f (l.low + l.left / 2)) a.same in
    rw
    e.counted
    (goes_on start _ _ _ _ _ _ _ a c.loop-left-test.true _ _ e.same e.count _ _ found c.where_above-low.ensures)
