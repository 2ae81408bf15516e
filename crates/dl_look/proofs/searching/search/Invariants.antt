-- The answer is among the sequences that are left.
use Rattle.dl_look.proofs.SpanLemmas.{Passed}
use Rattle.dl_look.proofs.searching.search.Given as goal

abbrev pub invariant-loop-i : goal.invariant-loop-i
invariant-loop-i g l =
    Passed (g.T.Probed.list l.initial.table) (g.T.Probed.list l.table) l.place l.i (g.T.Probed.probes l.table)
