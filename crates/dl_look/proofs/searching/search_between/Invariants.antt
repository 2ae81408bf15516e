-- The place lies between the rows at low and high.
use Rattle.std.proofs.Common.{◌-◌}
use Rattle.dl_look.proofs.Halving.{Around}
use Rattle.dl_look.proofs.searching.search_between.Given as goal

abbrev pub invariant-loop-high : goal.invariant-loop-high
invariant-loop-high g l =
    Around (g.T.Probed.list l.initial.table) (g.T.Probed.list l.table) l.start l.len l.place l.low l.high
    (g.T.Probed.probes l.initial.table) (g.T.Probed.probes l.table)

abbrev pub decreases-loop-high : goal.decreases-loop-high
decreases-loop-high g l = l.high - l.low
