use Rattle.dl_path.proofs.PrintLemmas.{Fronts}
use Rattle.dl_sources.specs.Reporting.{entries_text}
use Rattle.dl_sources.proofs.printing.print_paths.Given as goal

abbrev pub invariant-loop-path : goal.invariant-loop-path
invariant-loop-path g l =
    Fronts (g.W.Write.contents l.initial.output) (g.W.Write.contents l.output) l.initial.printer l.printer
    (entries_text l.question l.table.paths.entries) (entries_text l.question l.path-iterator)
