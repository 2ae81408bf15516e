-- Counts of rules, one after the other.
use Rattle.std.proofs.Common.{◌≡◌, ◌∙◌, ℕ, ◌+◌, ◌<◌, ◌≤◌, List, [], ◌++◌, ap, ap₂, drop, length, sym}
use Rattle.std.specs.Prelude.{slice_index_or}
use Rattle.std.proofs.Math.ListN.{drop_of_length-le}
use Rattle.std.proofs.lemmas.List.{drop_more}
use Rattle.dl_findings.specs.Counting.{count_of}
use Rattle.dl_findings.specs.RuleNames.{rule_name}
use Rattle.dl_findings.specs.declared.counts.FindingCounts.{FindingCounts}
use Rattle.dl_findings.specs.declared.rule.Rule.{Rule}
use Rattle.dl_linting.specs.CountText.{count_text, counts_text}

-- the next rule, of this name and with so many findings
pub next_count : (counts : FindingCounts) (rules : List Rule) (i : ℕ) (d : Rule) (name : List ℕ) (count : ℕ) → i < length rules
    → name ≡ rule_name (slice_index_or rules i d) → count ≡ count_of counts (slice_index_or rules i d)
    → counts_text counts (drop i rules) ≡ count_text name count ++ counts_text counts (drop (i + 1) rules)
next_count counts rules i d name count within named counted =
    ap (counts_text counts) (drop_more rules i d within)
    ∙ ap (λ (l : List ℕ). l ++ counts_text counts (drop (i + 1) rules)) (ap₂ count_text (sym named) (sym counted))

pub no_count : (counts : FindingCounts) (rules : List Rule) (i : ℕ) → length rules ≤ i → counts_text counts (drop i rules) ≡ []
no_count counts rules i over = ap (counts_text counts) (drop_of_length-le rules over)
