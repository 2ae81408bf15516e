-- How many findings there are of each rule.
use Rattle.std.specs.Prelude.{◌≡◌, ℕ, ◌-◌, ◌^◌, min, ◌==◌, List, slice_index_or}
use Rattle.std.specs.List.{count_by}
use Rattle.dl_findings.specs.FindingText.{rule_of}
use Rattle.dl_findings.specs.RuleNames.{rule_place}
use Rattle.dl_findings.specs.declared.counts.FindingCounts.{FindingCounts}
use Rattle.dl_findings.specs.declared.finding.Finding.{Finding}
use Rattle.dl_findings.specs.declared.rule.Rule.{Rule}

-- 2^64 - 1 stands for every number above it too
abbrev pub at_most_64_bits : ℕ → ℕ
at_most_64_bits n = min n (2 ^ 64 - 1)

-- how many of the findings are of a rule, as far as 64 bits hold it
abbrev pub how_many : Rule → List Finding → ℕ
how_many r findings = at_most_64_bits (count_by (λ f. rule_place r == rule_place (rule_of f.found)) findings)

abbrev pub count_of : FindingCounts → Rule → ℕ
count_of counts r = slice_index_or counts.of (rule_place r) 0

-- they count these findings
abbrev pub Counts : FindingCounts → List Finding → Type 0
Counts counts findings = (r : Rule) → count_of counts r ≡ how_many r findings
