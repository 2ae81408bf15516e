use Rattle.std.proofs.Common.{◌≡◌, ◌∙◌, List, Option, Some, ap, subst, sym}
use Rattle.std.specs.Prelude.{option_map}
use Rattle.clap.specs.Words.{Row, found_of, rows_of}
use Rattle.dl_cmd.specs.Job.{Text, files_words_made, follow_words_made, request_made, words_made}
use Rattle.dl_cmd.specs.Words.{files_words_of, follow_by, follow_words_of, request_of, said_of}
use Rattle.dl_cmd.specs.declared.job.Words.{Words}
use Rattle.dl_cmd.proofs.WordLemmas.{said_in_all}
use Rattle.dl_cmd.proofs.words.asked_words.Goals as goal

-- what is told, of words that were said and may stand together
told : (name : Text) (rows : List Row) (o : Option Words) (said allowed last : Words)
    → option_map words_made o ≡ said_of name rows → o ≡ Some said → allowed ≡ said
    → words_made last ≡ record (words_made allowed) { follow = follow_by name (words_made allowed).follow }
    → (Some (request_made last.job) ≡ request_of name rows)
    × (follow_words_made last.follow ≡ follow_words_of name rows)
    × (files_words_made last.files ≡ files_words_of name rows)
told name rows o said allowed last says is same done =
    said_in_all name rows (words_made said) (words_made last) (sym (ap (option_map words_made) is) ∙ says)
    (subst (λ (w : Words). words_made last ≡ record (words_made w) { follow = follow_by name (words_made w).follow }) same
    done)

pub returns-clause-job : goal.returns-clause-job
returns-clause-job c =
    (told c.args.name.now (rows_of (found_of c.args.matches.now)) _ _ _ c.in_ok-with_follow.field-0
    c.in_ok-words.ensures.words c.in-Some.is c.in_ok-words-2.ensures.same c.in_ok-with_follow.ensures.words).0

pub returns-clause-follow : goal.returns-clause-follow
returns-clause-follow c =
    (told c.args.name.now (rows_of (found_of c.args.matches.now)) _ _ _ c.in_ok-with_follow.field-0
    c.in_ok-words.ensures.words c.in-Some.is c.in_ok-words-2.ensures.same c.in_ok-with_follow.ensures.words).1

pub returns-clause-files : goal.returns-clause-files
returns-clause-files c =
    (told c.args.name.now (rows_of (found_of c.args.matches.now)) _ _ _ c.in_ok-with_follow.field-0
    c.in_ok-words.ensures.words c.in-Some.is c.in_ok-words-2.ensures.same c.in_ok-with_follow.ensures.words).2
