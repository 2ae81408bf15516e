use Rattle.std.proofs.Common.{Bor, List, ap, map}
use Rattle.std.proofs.lemmas.Result.{err_from_is_err_and}
use Rattle.dl_cmd.specs.Job.{Text, lint_words_made}
use Rattle.dl_linting.proofs.RuleLemmas.{first_stops, then_asked, then_known, then_stops}
use Rattle.dl_linting.proofs.rules.asked_rules.Goals as goal

abbrev texts : List (Bor Text) → List Text
texts words = map (λ s. s.now) words

pub returns-in_err-named-clause-stops : goal.returns-in_err-named-clause-stops
returns-in_err-named-clause-stops c =
    let e = err_from_is_err_and c.from_residual.result c.from_residual.ensures.1 in
    rw (e.1, e.2) (first_stops (lint_words_made c.args.words.now) (texts c.as_slice-rules.result.now)
    (texts c.as_slice-no_rules.result.now) (ap texts c.as_slice-rules.ensures.value) (ap texts c.as_slice-no_rules.ensures.value) _
    c.in_err-named.ensures.stops)

pub returns-clause-known : goal.returns-clause-known
returns-clause-known c =
    then_known (lint_words_made c.args.words.now) (texts c.as_slice-rules.result.now) (texts c.as_slice-no_rules.result.now)
    (ap texts c.as_slice-rules.ensures.value) (ap texts c.as_slice-no_rules.ensures.value) c.without_names.result
    c.in_ok-named.ensures.known c.without_names.ensures.known

pub returns-clause-stops : goal.returns-clause-stops
returns-clause-stops c =
    then_stops (lint_words_made c.args.words.now) (texts c.as_slice-rules.result.now) (texts c.as_slice-no_rules.result.now)
    (ap texts c.as_slice-rules.ensures.value) (ap texts c.as_slice-no_rules.ensures.value) c.without_names.result
    c.in_ok-named.ensures.known c.without_names.ensures.stops

pub returns-clause-asked : goal.returns-clause-asked
returns-clause-asked c =
    then_asked (lint_words_made c.args.words.now) (texts c.as_slice-rules.result.now) (texts c.as_slice-no_rules.result.now)
    (ap texts c.as_slice-rules.ensures.value) (ap texts c.as_slice-no_rules.ensures.value) c.first_rules.result
    c.in_ok-named.named c.without_names.result c.first_rules.ensures c.in_ok-named.ensures.chosen c.without_names.ensures.chosen
