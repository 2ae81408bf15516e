use Rattle.std.proofs.Common.{◌≡◌, subst, ◌∙◌}
use Rattle.std.specs.Io.KnownBytes.{Appends}
use Rattle.dl_asked.specs.AskedLines.{asked_in, ended}
use Rattle.std.proofs.lemmas.Result.{err_from_is_err_and}
use Rattle.dl_dialogue.specs.Answers.{StopsBy, found_by, lines_by}
use Rattle.dl_dialogue.specs.Faults.{TellFails}
use Rattle.dl_dialogue.proofs.dialogue.Dialogue.end.Goals as goal

pub returns-clause-answers : goal.returns-clause-answers
returns-clause-answers g c = λ first m hex start done stays determines talks.
    let before = asked_in hex (ended done) in
    let all = c.end-asked.ensures.asked hex done before talks.speaks.line in
    let said = c.in_ok-answer_last.ensures.answers first m start before stays determines talks.speaks.answers in
    let out = said.1 in
    record {
      found = c.found.ensures ∙ subst (λ a. c.answer_last.new.self.found ≡ found_by m a) all said.0.found;
      no_address = c.end-asked.ensures.no_address hex done before talks.speaks.line;
      out = subst (λ a. Appends start (g.W.Write.contents c.answer_last.new.output) (lines_by m a)) all out;
    }

pub returns-in_err-answer_last-clause-answers : goal.returns-in_err-answer_last-clause-answers
returns-in_err-answer_last-clause-answers g c = λ first m hex start done stays determines talks.
    let before = asked_in hex (ended done) in
    let p = err_from_is_err_and c.from_residual.result c.from_residual.ensures.1 in
    let all = c.end-asked.ensures.asked hex done before talks.speaks.line in
    rw (p.1, p.2) (subst (λ a. StopsBy m
    (TellFails (g.T.Tell.fails_with first) (g.T.Tell.asks first) (g.M.Memory.refuses c.args.memory.now)) start
    (g.W.Write.contents c.answer_last.new.output) a c.in_err-answer_last.field-0.0) all
    (c.in_err-answer_last.ensures.answers first m start before stays determines talks.speaks.answers))
