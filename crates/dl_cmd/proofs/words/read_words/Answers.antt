use Rattle.std.proofs.Common.{map, List, ℕ, Bor}
use Rattle.dl_cmd.proofs.WordLemmas.{asked_by, beside_by, clap_wants, failed, no_fault, refused_by, some_asked, named_by}
use Rattle.dl_cmd.specs.Job.{files_words_made, follow_words_made, request_made}
use Rattle.dl_cmd.specs.Words.{files_words_of, follow_words_of}
use Rattle.dl_cmd.proofs.words.read_words.Goals as goal

pub returns-in_err-matches-clause-kinds : goal.returns-in_err-matches-clause-kinds
returns-in_err-matches-clause-kinds c =
    failed _ c.in_err-matches.field-0.0 _ _ c.in_ok-make_command_line.ensures.app.0 c.in_err-matches.ensures.kinds
    c.from_residual-in_err-matches.ensures.1

pub returns-in_err-matches-clause-refused : goal.returns-in_err-matches-clause-refused
returns-in_err-matches-clause-refused c =
    clap_wants _ c.in_err-matches.field-0.0 c.from_residual-in_err-matches.ensures.1

pub returns-in-Some-clause-job : goal.returns-in-Some-clause-job
returns-in-Some-clause-job c =
    let met = named_by _ _ _ _ _ c.in_ok-make_command_line.ensures.app.0 c.in_ok-matches.ensures.matches
    c.in-Some.ensures.name c.in-Some.ensures.rows in
    asked_by c.asked_words.result (λ w. request_made w.job) (map (λ (w : Bor (List ℕ)). w.now) c.args.words.now) _ _ met
    c.asked_words.ensures.job

pub returns-in-Some-clause-some : goal.returns-in-Some-clause-some
returns-in-Some-clause-some c =
    let words = map (λ (w : Bor (List ℕ)). w.now) c.args.words.now in
    let none = no_fault _ words c.in_ok-make_command_line.ensures.app.0 c.in_ok-matches.ensures.kinds in
    some_asked c.asked_words.result (λ w. request_made w.job) words none (returns-in-Some-clause-job c)

pub returns-in-Some-clause-follow : goal.returns-in-Some-clause-follow
returns-in-Some-clause-follow c =
    let met = named_by _ _ _ _ _ c.in_ok-make_command_line.ensures.app.0 c.in_ok-matches.ensures.matches
    c.in-Some.ensures.name c.in-Some.ensures.rows in
    beside_by c.asked_words.result (λ w. follow_words_made w.follow) follow_words_of
    (map (λ (w : Bor (List ℕ)). w.now) c.args.words.now) _ _ met (returns-in-Some-clause-some c)
    c.asked_words.ensures.follow

pub returns-in-Some-clause-files : goal.returns-in-Some-clause-files
returns-in-Some-clause-files c =
    let met = named_by _ _ _ _ _ c.in_ok-make_command_line.ensures.app.0 c.in_ok-matches.ensures.matches
    c.in-Some.ensures.name c.in-Some.ensures.rows in
    beside_by c.asked_words.result (λ w. files_words_made w.files) files_words_of
    (map (λ (w : Bor (List ℕ)). w.now) c.args.words.now) _ _ met (returns-in-Some-clause-some c)
    c.asked_words.ensures.files

pub returns-in-Some-clause-kinds : goal.returns-in-Some-clause-kinds
returns-in-Some-clause-kinds c =
    let met = named_by _ _ _ _ _ c.in_ok-make_command_line.ensures.app.0 c.in_ok-matches.ensures.matches
    c.in-Some.ensures.name c.in-Some.ensures.rows in
    let words = map (λ (w : Bor (List ℕ)). w.now) c.args.words.now in
    let none = no_fault _ words c.in_ok-make_command_line.ensures.app.0 c.in_ok-matches.ensures.kinds in
    refused_by c.asked_words.result words _ _ none met c.asked_words.ensures.kinds
