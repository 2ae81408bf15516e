use Rattle.std.proofs.Common.{◌∙◌, ℕ, List, ap, sym}
use Rattle.std.specs.Str.{bytes_eq}
use Rattle.dl_findings.specs.declared.rule.Rule.TheVariants.{FileIndex}
use Rattle.dl_findings.specs.RuleNames.{all_rules, rule_name}
use Rattle.dl_findings.proofs.NameLemmas.{found_next, none_next}
use Rattle.dl_findings.proofs.rule.Rule.named.Goals as goal

pub returns-then-eq : goal.returns-then-eq
returns-then-eq c =
    let l = c.loop-rule in
    let name = c.args.name.now in
    sym (found_next (λ r. bytes_eq (rule_name r) name) all_rules l.rule-index FileIndex c.loop-rule-test.true l.invariant
    (ap (λ (s : List ℕ). bytes_eq s name) (sym c.name.ensures) ∙ sym c.eq.ensures ∙ c.if-eq.true))

pub loop-rule-preserved : goal.loop-rule-preserved
loop-rule-preserved c =
    let l = c.loop-rule in
    let name = c.args.name.now in
    none_next (λ r. bytes_eq (rule_name r) name) all_rules l.rule-index FileIndex c.loop-rule-test.true l.invariant
    (ap (λ (s : List ℕ). bytes_eq s name) (sym c.name.ensures) ∙ sym c.eq.ensures ∙ c.if-eq.false)
