-- Which rules words choose, one word after the other.
use Rattle.std.proofs.Common.{◌≡◌, ◌∙◌, ◌&&◌, ◌||◌, ◌==◌, ℕ, ◌<◌, ◌≤◌, Bool, true, false, not, List, [], ◌∷◌, ◌++◌, Option, None, Some}
use Rattle.std.proofs.Common.{◌+◌, Bor, ap, ap₂, refl, sym, subst, map, drop, length, is_some}
use Rattle.std.proofs.Math.ListN.{drop_of_length-le}
use Rattle.std.proofs.lemmas.List.{drop_more}
use Rattle.std.proofs.Common.{Result, Ok, Err}
use Rattle.std.specs.Prelude.{IfErr, IfOk, if◌then◌else◌, slice_index_or}
use Rattle.std.specs.List.{list_any}
use Rattle.dl_cmd.specs.Job.{LintTexts, Text}
use Rattle.dl_findings.specs.Chosen.{is_chosen}
use Rattle.dl_findings.specs.RuleNames.{named, rule_place}
use Rattle.dl_findings.specs.declared.rule.Rule.{Rule}
use Rattle.dl_findings.specs.declared.rules.Rules.{Rules}
use Rattle.dl_program.specs.declared.stop.Stop.{Stop}
use Rattle.dl_program.specs.declared.stop.Stop.TheVariants.{NotRule}
use Rattle.dl_linting.specs.RuleWords.{AreAsked, IsFirstNoRule, IsNoRule, first_no_rule, is_empty, is_rule, names, no_rule_in}

-- a rule among these, and of one word more
pub one_more : (r n : Rule) (word : Text) (rest own more : Bool) → named word ≡ Some n
    → more ≡ (if rule_place r == rule_place n then true else own)
    → (more || rest) ≡ (own || (names r word || rest))
one_more r n word rest own more is told = rw (is, told) (by (rule_place r == rule_place n) own rest)
  where
    by : (same own rest : Bool) → ((if same then true else own) || rest) ≡ (own || (same || rest))
    by true true rest = refl
    by true false rest = refl
    by false true rest = refl
    by false false rest = refl

pub one_less : (r n : Rule) (word : Text) (rest own less : Bool) → named word ≡ Some n
    → less ≡ (if rule_place r == rule_place n then false else own)
    → (less && not rest) ≡ (own && not (names r word || rest))
one_less r n word rest own less is told = rw (is, told) (by (rule_place r == rule_place n) own rest)
  where
    by : (same own rest : Bool) → ((if same then false else own) && not rest) ≡ (own && not (same || rest))
    by true true rest = refl
    by true false rest = refl
    by false true rest = refl
    by false false rest = refl

-- the first word that is no rule, behind words that are
pub known_word : (word : Text) (n : Rule) (words : List Text) → named word ≡ Some n
    → first_no_rule (word ∷ words) ≡ first_no_rule words
known_word word n words is = rw is refl

pub unknown_word : (word : Text) (words : List Text) → named word ≡ None → first_no_rule (word ∷ words) ≡ Some word
unknown_word word words is = rw is refl

-- one word more before what is found of others
found_behind : (name : Text) (first others : List Text) (known : Bool) → is_rule name ≡ known
    → (first_no_rule first ≡ None → first_no_rule (first ++ others) ≡ first_no_rule others)
    → (if not known then Some name else first_no_rule first) ≡ None
    → first_no_rule (name ∷ (first ++ others)) ≡ first_no_rule others
found_behind name first others true is later none = rw is (later none)
found_behind name first others false is later none =
    absurd (let some : ◌≡◌ {A = Option Text} (Some name) None = none in cc)

-- where all of the first words are names of rules
pub none_then : (first others : List Text) → first_no_rule first ≡ None → first_no_rule (first ++ others) ≡ first_no_rule others
none_then [] others none = refl
none_then (name ∷ first) others none = found_behind name first others (is_rule name) refl (none_then first others) none

stays_behind : (name : Text) (first others : List Text) (word : Text) (known : Bool) → is_rule name ≡ known
    → (first_no_rule first ≡ Some word → first_no_rule (first ++ others) ≡ Some word)
    → (if not known then Some name else first_no_rule first) ≡ Some word
    → first_no_rule (name ∷ (first ++ others)) ≡ Some word
stays_behind name first others word true is later told = rw is (later told)
stays_behind name first others word false is later told = rw is told

pub first_stays : (first others : List Text) (word : Text) → first_no_rule first ≡ Some word
    → first_no_rule (first ++ others) ≡ Some word
first_stays [] others word told = absurd (let none : ◌≡◌ {A = Option Text} None (Some word) = told in cc)
first_stays (name ∷ first) others word told =
    stays_behind name first others word (is_rule name) refl (first_stays first others word) told

pub now : Bor Text → Text
now s = s.now

-- the word at a place, and those behind it
pub next_word : (words : List (Bor Text)) (i : ℕ) (d : Bor Text) → i < length words
    → map (λ s. s.now) (drop i words) ≡ (slice_index_or words i d).now ∷ map (λ s. s.now) (drop (i + 1) words)
next_word words i d within = ap (λ (l : List (Bor Text)). map (λ s. s.now) l) (drop_more words i d within)

-- behind the last one
pub no_word : (words : List (Bor Text)) (i : ℕ) → length words ≤ i → map (λ s. s.now) (drop i words) ≡ []
no_word words i over = ap (λ (l : List (Bor Text)). map (λ s. s.now) l) (drop_of_length-le words over)

pub or_none : (own : Bool) → (own || false) ≡ own
or_none true = refl
or_none false = refl

pub and_none : (own : Bool) → (own && not false) ≡ own
and_none true = refl
and_none false = refl

-- a fault of the first words is the first of all
pub stop_stays : (first others : List Text) (stop : Stop) → IsNoRule first stop → IsNoRule (first ++ others) stop
stop_stays first others (NotRule word) is = first_stays first others word.now is
stop_stays first others other is = absurd is

pub stop_behind : (first others : List Text) (stop : Stop) → first_no_rule first ≡ None → IsNoRule others stop
    → IsNoRule (first ++ others) stop
stop_behind first others (NotRule word) none is = none_then first others none ∙ is
stop_behind first others other none is = absurd is

-- ---- the rules that are named, without those that are left out. rules, no_rules: the words of either

module _ (w : LintTexts) (rules no_rules : List Text) (are : rules ≡ w.rules) (are_not : no_rules ≡ w.no_rules) where
  all_words : rules ++ no_rules ≡ w.rules ++ w.no_rules
  all_words = ap₂ (λ (a b : List Text). a ++ b) are are_not

  pub first_stops : (stop : Stop) → IsNoRule rules stop → IsFirstNoRule w stop
  first_stops stop told = subst (λ (l : List Text). IsNoRule l stop) all_words (stop_stays rules no_rules stop told)

  -- by the answer of the last step
  pub then_known : {A E : Type 0} (result : Result A E) → first_no_rule rules ≡ None
      → IfOk result (λ a. first_no_rule no_rules ≡ None) → IfOk result (λ a. no_rule_in w ≡ None)
  then_known (Ok a) none known = sym (ap first_no_rule all_words) ∙ none_then rules no_rules none ∙ known
  then_known (Err e) none known = tt

  pub then_stops : {A : Type 0} (result : Result A Stop) → first_no_rule rules ≡ None
      → IfErr result (IsNoRule no_rules) → IfErr result (IsFirstNoRule w)
  then_stops (Ok a) none stops = tt
  then_stops (Err stop) none stops =
      subst (λ (l : List Text). IsNoRule l stop) all_words (stop_behind rules no_rules stop none stops)

  pub then_asked : {E : Type 0} (first named : Rules) (result : Result Rules E)
      → ((r : Rule) → is_chosen first r ≡ is_empty rules)
      → ((r : Rule) → is_chosen named r ≡ (is_chosen first r || list_any (names r) rules))
      → IfOk result (λ chosen. (r : Rule) → is_chosen chosen r ≡ (is_chosen named r && not (list_any (names r) no_rules)))
      → IfOk result (AreAsked w)
  then_asked first named (Ok chosen) begins names_them leaves =
      λ r. leaves r ∙ ap₂ (λ (b : Bool) (l : List Text). b && not (list_any (names r) l))
      (names_them r ∙ ap₂ (λ (b : Bool) (l : List Text). b || list_any (names r) l) (begins r ∙ ap is_empty are) are) are_not
  then_asked first named (Err e) begins names_them leaves = tt
