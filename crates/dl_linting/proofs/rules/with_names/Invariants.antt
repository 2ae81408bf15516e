-- The words so far, and those that are left, come to all words.
use Rattle.std.proofs.Common.{◌≡◌, ◌||◌, drop, map}
use Rattle.std.specs.List.{list_any}
use Rattle.dl_findings.specs.Chosen.{is_chosen}
use Rattle.dl_findings.specs.declared.rule.Rule.{Rule}
use Rattle.dl_linting.specs.RuleWords.{first_no_rule, names}
use Rattle.dl_linting.proofs.rules.with_names.Given as goal

abbrev pub invariant-loop-word : goal.invariant-loop-word
invariant-loop-word l = record {
  chosen : (r : Rule) → (is_chosen l.chosen r || list_any (names r) (map (λ s. s.now) (drop l.word-index l.words)))
      ≡ (is_chosen l.fn.rules r || list_any (names r) (map (λ s. s.now) l.words));
  known : first_no_rule (map (λ s. s.now) (drop l.word-index l.words)) ≡ first_no_rule (map (λ s. s.now) l.words);
}
