-- The counts of the first rules are printed.
use Rattle.std.proofs.Common.{drop}
use Rattle.dl_path.proofs.PrintLemmas.{Fronts}
use Rattle.dl_linting.specs.CountText.{counts_text}
use Rattle.dl_linting.proofs.counts.print_counts.Given as goal

abbrev pub invariant-loop-rule : goal.invariant-loop-rule
invariant-loop-rule g l = record {
  printed : Fronts (g.W.Write.contents l.initial.output) (g.W.Write.contents l.output) l.initial.printer l.printer
      (counts_text l.counts l.rules) (counts_text l.counts (drop l.rule-index l.rules));
}
