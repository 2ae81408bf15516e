-- The first numbers are printed.
use Rattle.std.proofs.Common.{drop}
use Rattle.dl_path.proofs.PrintLemmas.{Fronts}
use Rattle.dl_findings.specs.FindingRecord.{eight_bytes_each}
use Rattle.dl_findings.proofs.finding_record.print_bytes_of.Given as goal

abbrev pub invariant-loop-number : goal.invariant-loop-number
invariant-loop-number g l = record {
  printed : Fronts (g.W.Write.contents l.initial.output) (g.W.Write.contents l.output) l.initial.printer l.printer
      (eight_bytes_each l.numbers) (eight_bytes_each (drop l.number-index l.numbers));
}
