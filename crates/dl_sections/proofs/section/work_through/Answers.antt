use Rattle.std.proofs.Common.{◌++◌, sym, ◌∙◌}
use Rattle.std.proofs.lemmas.Result.{err_from_is_err_and}
use Rattle.dl_sections.proofs.WorkLemmas.{all_out, not_out}
use Rattle.dl_sections.proofs.section.work_through.Goals as goal

pub returns-in_err-flush-clause-worked : goal.returns-in_err-flush-clause-worked
returns-in_err-flush-clause-worked g c dialect past t units b first start are short tells =
    let p = err_from_is_err_and c.from_residual.result c.from_residual.ensures.1 in
    rw (
      p.1,
      p.2,
    ) (not_out g.V.Visitor.story dialect past (t ++ c.args.piece.now) first c.feed-answer.new.visitor c.flush.new.self
    start (g.W.Write.contents c.feed-answer.new.output) (g.W.Write.contents c.flush.new.output)
    c.feed-answer.new.self
    _ (λ n visits goes. c.in_err-flush.ensures.settled n first start visits goes) c.feed-answer.result
    (sym c.is_failed_write.ensures ∙ c.if-not-is_failed_write.true)
    (c.feed-answer.ensures.fed dialect past t units b first start are short tells))

pub returns-in_ok-flush-clause-worked : goal.returns-in_ok-flush-clause-worked
returns-in_ok-flush-clause-worked g c dialect past t units b first start are short tells =
    all_out g.V.Visitor.story dialect past (t ++ c.args.piece.now) first c.feed-answer.new.visitor c.flush.new.self start
    (g.W.Write.contents c.feed-answer.new.output) (g.W.Write.contents c.flush.new.output) c.feed-answer.new.self
    (λ n visits goes. c.in_ok-flush.ensures.settled n first start visits goes) c.feed-answer.result
    (sym c.is_failed_write.ensures ∙ c.if-not-is_failed_write.true)
    (c.feed-answer.ensures.fed dialect past t units b first start are short tells)
