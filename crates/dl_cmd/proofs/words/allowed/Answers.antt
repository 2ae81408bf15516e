use Rattle.std.proofs.Common.{◌∙◌, sym}
use Rattle.dl_cmd.specs.Job.{words_made}
use Rattle.dl_cmd.proofs.WordLemmas.{refused_for_words}
use Rattle.dl_cmd.proofs.words.allowed.Goals as goal

pub returns-in-Some-clause-refused : goal.returns-in-Some-clause-refused
returns-in-Some-clause-refused c = λ memory. absurd (refused_for_words (words_made c.args.words) _ c.in-Some.ensures
    (sym c.in_ok-error_of-in-Some.ensures.kind ∙ memory))
