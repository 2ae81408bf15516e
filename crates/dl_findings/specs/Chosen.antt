-- Which rules are chosen.
use Rattle.std.specs.Prelude.{ℕ, ◌==◌, Bool, false, slice_index_or}
use Rattle.std.specs.Int.{bit_at}
use Rattle.dl_findings.specs.declared.rule.Rule.{Rule}
use Rattle.dl_findings.specs.declared.rules.Rules.{Rules}
use Rattle.dl_findings.specs.RuleNames.{rule_place}

abbrev pub is_chosen : Rules → Rule → Bool
is_chosen rules r = slice_index_or rules.has (rule_place r) false

-- the bit of a rule, which is worth 2^n, n its place, is set
abbrev pub has_bit : (bits : ℕ) → Rule → Bool
has_bit bits r = bit_at bits (rule_place r) == 1
