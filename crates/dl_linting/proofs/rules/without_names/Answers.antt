use Rattle.std.proofs.Common.{◌≡◌, ◌∙◌, ◌&&◌, not, List, ap, drop, map, subst, sym}
use Rattle.std.specs.List.{list_any}
use Rattle.dl_cmd.specs.Job.{Text}
use Rattle.dl_findings.specs.Chosen.{is_chosen}
use Rattle.dl_findings.specs.RuleNames.{named}
use Rattle.dl_linting.specs.RuleWords.{first_no_rule, names}
use Rattle.dl_linting.proofs.RuleLemmas.{and_none, known_word, next_word, no_word, one_less, unknown_word}
use Rattle.dl_linting.proofs.rules.without_names.Goals as goal

pub loop-word-preserved : goal.loop-word-preserved
loop-word-preserved c =
    let words = c.args.words.now in
    let i = c.loop-word.word-index in
    let next = next_word words i _ c.loop-word-test.true in
    let is = sym (c.in-Some.ensures ∙ ap named c.as_bytes.ensures.value) in
    record {
      chosen = λ r. one_less r c.in-Some.rule _ _ (is_chosen c.loop-word.chosen r) _ is (c.without-chosen.ensures r)
          ∙ subst (λ (l : List Text). (is_chosen c.loop-word.chosen r && not (list_any (names r) l))
          ≡ (is_chosen c.args.rules r && not (list_any (names r) (map (λ s. s.now) words)))) next (c.loop-word.invariant.chosen r);
      known = sym (known_word _ c.in-Some.rule _ is) ∙ ap first_no_rule (sym next) ∙ c.loop-word.invariant.known;
    }

pub returns-in_default-clause-stops : goal.returns-in_default-clause-stops
returns-in_default-clause-stops c =
    let next = next_word c.args.words.now c.loop-word.word-index _ c.loop-word-test.true in
    sym c.loop-word.invariant.known ∙ ap first_no_rule next
    ∙ unknown_word _ _ (sym (c.in_default.ensures ∙ ap named c.as_bytes.ensures.value))

pub returns-clause-known : goal.returns-clause-known
returns-clause-known c =
    sym c.loop-word.invariant.known ∙ ap first_no_rule (no_word c.args.words.now c.loop-word.word-index c.loop-word-test.false)

pub returns-clause-chosen : goal.returns-clause-chosen
returns-clause-chosen c r =
    sym (and_none (is_chosen c.loop-word.chosen r))
    ∙ subst (λ (l : List Text). (is_chosen c.loop-word.chosen r && not (list_any (names r) l))
    ≡ (is_chosen c.args.rules r && not (list_any (names r) (map (λ s. s.now) c.args.words.now))))
    (no_word c.args.words.now c.loop-word.word-index c.loop-word-test.false) (c.loop-word.invariant.chosen r)
