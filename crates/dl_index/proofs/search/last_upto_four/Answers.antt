use Rattle.std.proofs.Common.{◌≡◌, ◌+◌, ◌*◌, ◌/◌, ap, ◌∙◌, arith}
use Rattle.dl_index.proofs.SearchLemmas.{goes_on}
use Rattle.dl_index.proofs.search.last_upto_four.Goals as goal

pub loop-left-preserved : goal.loop-left-preserved
loop-left-preserved g c =
    let l = c.loop-left in
    let half = l.left / 2 in
    let i = l.invariant in
    let start = g.T.Starts.start c.args.starts.now in
    let two = c.loop-left-test.true in
    let e1 = c.at.ensures in
    let e2 = c.at-in-loop-left.ensures in
    let e3 = c.at-in-loop-left-2.ensures in
    let e4 = c.at-in-loop-left-3.ensures in
    let same2 = e1.same ∙ i.of_first.same in
    let same3 = e2.same ∙ same2 in
    let same4 = e3.same ∙ same3 in
    let same = e4.same ∙ e3.same ∙ e2.same ∙ e1.same in
    let count = e4.count ∙ e3.count ∙ e2.count ∙ e1.count in
    let found1 = e1.value ∙ ap (λ f. f (l.first + half)) i.of_first.same in
    let found2 = e2.value ∙ ap (λ f. f (l.second + half)) same2 in
    let found3 = e3.value ∙ ap (λ f. f (l.third + half)) same3 in
    let found4 = e4.value ∙ ap (λ f. f (l.fourth + half)) same4 in
    let probed = i.probed in
    let counted = e4.counted ∙ ap (λ n. n + 1) (e3.counted ∙ ap (λ n. n + 1) (e2.counted ∙ ap (λ n. n + 1) e1.counted)) in
    let more : g.T.Starts.probes c.at-in-loop-left-3.new.self ≡ 4 * (i.steps + 1) = omega (arith, counted, probed) in
    record {
      steps = i.steps + 1;
      probed = more;
      of_first = goes_on start _ _ _ _ _ _ _ i.of_first two _ _ same count _ _ found1 c.where_above-first.ensures;
      of_second = goes_on start _ _ _ _ _ _ _ i.of_second two _ _ same count _ _ found2 c.where_above-second.ensures;
      of_third = goes_on start _ _ _ _ _ _ _ i.of_third two _ _ same count _ _ found3 c.where_above-third.ensures;
      of_fourth = goes_on start _ _ _ _ _ _ _ i.of_fourth two _ _ same count _ _ found4 c.where_above-fourth.ensures;
    }
