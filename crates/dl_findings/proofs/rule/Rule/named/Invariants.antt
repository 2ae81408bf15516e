-- None of the first rules has the name.
use Rattle.std.proofs.Common.{◌≡◌, None, take}
use Rattle.std.specs.List.{find}
use Rattle.std.specs.Str.{bytes_eq}
use Rattle.dl_findings.specs.RuleNames.{all_rules, rule_name}
use Rattle.dl_findings.proofs.rule.Rule.named.Given as goal

abbrev pub invariant-loop-rule : goal.invariant-loop-rule
invariant-loop-rule l = find (λ r. bytes_eq (rule_name r) l.name) (take l.rule-index all_rules) ≡ None
