-- What was found of the first ranges was told.
use Rattle.std.proofs.Common.{drop}
use Rattle.std.specs.Prelude.{flat_map, IfSome}
use Rattle.dl_sequence_rules.specs.Keeping.{IsAddressCoverage}
use Rattle.dl_sequence_rules.specs.NoCode.{no_code_found}
use Rattle.dl_lint.proofs.TellLemmas.{Front}
use Rattle.dl_lint.proofs.report.Report.tell_ranges.Given as goal

abbrev pub invariant-loop-range : goal.invariant-loop-range
invariant-loop-range g l =
    IfSome l.coverage (λ c. IsAddressCoverage c l.sequences)
    → Front (g.W.Write.contents l.fn.output) (g.W.Write.contents l.output) l.fn.self l.self
    (flat_map (no_code_found 0 l.sequences) l.fn.self.question.now.ranges.now)
    (flat_map (no_code_found 0 l.sequences) (drop l.range-index l.fn.self.question.now.ranges.now))
