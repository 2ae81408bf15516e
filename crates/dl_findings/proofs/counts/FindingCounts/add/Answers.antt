use Rattle.std.proofs.Common.{◌∙◌, ap}
use Rattle.dl_findings.specs.RuleNames.{rule_place}
use Rattle.dl_findings.proofs.CountLemmas.{counts_more}
use Rattle.dl_findings.proofs.counts.FindingCounts.add.Goals as goal

pub returns : goal.returns
returns c findings counts =
    counts_more c.args.self.now.of findings c.args.finding.now c.place-place.result c.saturating_add.result (search)
    (c.place-place.ensures.place ∙ ap rule_place c.rule.ensures) (search) counts
