-- How many findings there are, in words.
use Rattle.std.specs.Prelude.{ℕ, ◌==◌, if◌then◌else◌, List, [], ◌++◌, codes, decimal, flat_map}
use Rattle.dl_findings.specs.Counting.{count_of}
use Rattle.dl_findings.specs.RuleNames.{all_rules, rule_name}
use Rattle.dl_findings.specs.declared.counts.FindingCounts.{FindingCounts}
use Rattle.dl_findings.specs.declared.rule.Rule.{Rule}

-- of one rule
unfoldable pub some_text : (name : List ℕ) (count : ℕ) → List ℕ
some_text name count = codes " " ++ (name ++ (codes "=" ++ decimal count))

-- where there are some
abbrev pub count_text : (name : List ℕ) (count : ℕ) → List ℕ
count_text name count = if count == 0 then [] else some_text name count

-- of each of these rules
abbrev pub counts_text : FindingCounts → List Rule → List ℕ
counts_text counts rules = flat_map (λ r. count_text (rule_name r) (count_of counts r)) rules

-- the line on standard error
abbrev pub counts_line : FindingCounts → List ℕ
counts_line counts = codes "findings:" ++ (counts_text counts all_rules ++ codes "\n")
