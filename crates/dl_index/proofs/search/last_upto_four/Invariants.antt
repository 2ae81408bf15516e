use Rattle.dl_index.proofs.SearchLemmas.{FourAmong}
use Rattle.dl_index.proofs.search.last_upto_four.Given as goal

abbrev pub invariant-loop-left : goal.invariant-loop-left
invariant-loop-left g l =
    FourAmong (g.T.Starts.start l.initial.starts) (g.T.Starts.start l.starts) (g.T.Starts.count l.initial.starts)
    (g.T.Starts.count l.starts) l.x l.first l.second l.third l.fourth l.left (g.T.Starts.probes l.starts)

abbrev pub decreases-loop-left : goal.decreases-loop-left
decreases-loop-left g l = l.left
