-- Which rules the words of `lint` choose.
use Rattle.std.specs.Prelude.{◌≡◌, Bool, true, false, not, ◌&&◌, ◌||◌, ◌==◌, List, [], ◌∷◌, ◌++◌, Option, Some, is_some}
use Rattle.std.specs.List.{find, list_any}
use Rattle.std.specs.Option.{option_map_or}
use Rattle.dl_cmd.specs.Job.{LintTexts, Text}
use Rattle.dl_findings.specs.Chosen.{is_chosen}
use Rattle.dl_findings.specs.RuleNames.{named, rule_place}
use Rattle.dl_findings.specs.declared.rule.Rule.{Rule}
use Rattle.dl_findings.specs.declared.rules.Rules.{Rules}
use Rattle.dl_program.specs.declared.stop.Stop.{Stop}
use Rattle.dl_program.specs.declared.stop.Stop.TheVariants.{NotRule}

-- a word is the name of a rule
abbrev pub is_rule : Text → Bool
is_rule name = is_some (named name)

-- of this one
abbrev pub names : Rule → Text → Bool
names r name = option_map_or (λ n. rule_place r == rule_place n) (named name) false

abbrev pub is_empty : List Text → Bool
is_empty [] = true
is_empty (name ∷ words) = false

-- the findings of a rule are told: it is named, or none is, and it isn't left out
abbrev pub is_asked : LintTexts → Rule → Bool
is_asked w r = (is_empty w.rules || list_any (names r) w.rules) && not (list_any (names r) w.no_rules)

abbrev pub AreAsked : LintTexts → Rules → Type 0
AreAsked w rules = (r : Rule) → is_chosen rules r ≡ is_asked w r

-- the first of words that is the name of no rule
abbrev pub first_no_rule : List Text → Option Text
first_no_rule words = find (λ name. not (is_rule name)) words

abbrev pub IsNoRule : List Text → Stop → Type 0
IsNoRule words (NotRule word) = first_no_rule words ≡ Some word.now
IsNoRule words stop = ⊥

-- those that are named come before those that are left out
abbrev pub no_rule_in : LintTexts → Option Text
no_rule_in w = first_no_rule (w.rules ++ w.no_rules)

abbrev pub IsFirstNoRule : LintTexts → Stop → Type 0
IsFirstNoRule w stop = IsNoRule (w.rules ++ w.no_rules) stop
