use Rattle.std.proofs.Common.{map, Some}
use Rattle.std.specs.List.{flat_map}
use Rattle.dl_path.proofs.PrintLemmas.{Fronts}
use Rattle.dl_sources.specs.Report.{one_line}
use Rattle.dl_sources.proofs.printing.print_sums.Given as goal

abbrev pub invariant-loop-sum : goal.invariant-loop-sum
invariant-loop-sum g l =
    Fronts (g.W.Write.contents l.initial.output) (g.W.Write.contents l.output) l.initial.printer l.printer
    (flat_map (one_line l.question l.path l.totals.counts) (map (λ w. Some w) l.totals.sums.keys))
    (flat_map (one_line l.question l.path l.totals.counts) (map (λ w. Some w) l.sum-iterator))
