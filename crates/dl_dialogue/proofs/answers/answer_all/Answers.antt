use Rattle.std.proofs.Common.{take, ◌∙◌}
use Rattle.std.proofs.lemmas.Result.{err_from_is_err_and}
use Rattle.dl_dialogue.specs.Answers.{Manner}
use Rattle.dl_dialogue.proofs.AnswerLemmas.{all_answered, answered_within, each_answered, stops_weaker}
use Rattle.dl_dialogue.specs.Faults.{TellFails}
use Rattle.dl_dialogue.proofs.StayLemmas.{stays_itself, stays_on}
use Rattle.dl_dialogue.proofs.answers.answer_all.Goals as goal

pub loop-each-init : goal.loop-each-init
loop-each-init g c = (
  stays_itself c.args.teller.now,
  λ f determines. c.new-answers.ensures f (g.W.Write.contents c.args.output.now) c.new-printer.result
      c.new-printer.ensures.nothing_pending c.new-printer.ensures.nothing_out,
)

pub loop-each-preserved : goal.loop-each-preserved
loop-each-preserved g c =
    let i = c.loop-each.each-index in
    let asked = c.args.asked.now in
    let start = g.W.Write.contents c.args.output.now in
    let stays = c.loop-each.invariant.0 in (
      stays_on stays c.in_ok-answer.ensures.stays,
      λ f determines.
          let m : Manner = record { style = c.args.style; base = c.args.base; told = f } in
          each_answered m start (g.W.Write.contents c.answer.new.output) asked i _ c.answer.new.printer c.answer.new.self
          c.loop-each-test.true (c.in_ok-answer.ensures.answers c.args.teller.now m start (take i asked) stays determines
          (c.loop-each.invariant.1 f determines)),
    )

pub returns-in_err-answer-clause-answers : goal.returns-in_err-answer-clause-answers
returns-in_err-answer-clause-answers g c = λ f determines.
    let m : Manner = record { style = c.args.style; base = c.args.base; told = f } in
    let p = err_from_is_err_and c.from_residual.result c.from_residual.ensures.1 in
    let i = c.loop-each.each-index in
    let asked = c.args.asked.now in
    let start = g.W.Write.contents c.args.output.now in
    rw (p.1, p.2) (answered_within m (TellFails (g.T.Tell.fails_with c.args.teller.now) (g.T.Tell.asks c.args.teller.now) (g.M.Memory.refuses c.args.memory.now)) start
    (g.W.Write.contents c.answer.new.output) asked i _ _ c.loop-each-test.true
    (c.in_err-answer.ensures.answers c.args.teller.now m start (take i asked) c.loop-each.invariant.0 determines
    (c.loop-each.invariant.1 f determines)))

pub returns-in_err-flush-clause-answers : goal.returns-in_err-flush-clause-answers
returns-in_err-flush-clause-answers g c = λ f determines.
    let m : Manner = record { style = c.args.style; base = c.args.base; told = f } in
    let p = err_from_is_err_and c.from_residual-in_err-flush.result c.from_residual-in_err-flush.ensures.1 in
    let asked = c.args.asked.now in
    let start = g.W.Write.contents c.args.output.now in
    rw (p.1, p.2) (stops_weaker m (TellFails (g.T.Tell.fails_with c.args.teller.now) (g.T.Tell.asks c.args.teller.now) (g.M.Memory.refuses c.args.memory.now)) start
    (g.W.Write.contents c.flush.new.output) asked _
    (c.in_err-flush.ensures.flushed m start asked (all_answered m start (g.W.Write.contents c.loop-each.output) asked
    c.loop-each.each-index c.loop-each.printer c.loop-each.answers c.loop-each-test.false (c.loop-each.invariant.1 f determines))))

pub returns-clause-answers : goal.returns-clause-answers
returns-clause-answers g c = λ f determines.
    let m : Manner = record { style = c.args.style; base = c.args.base; told = f } in
    let asked = c.args.asked.now in
    let start = g.W.Write.contents c.args.output.now in
    let said = c.in_ok-flush.ensures.flushed m start asked (all_answered m start (g.W.Write.contents c.loop-each.output) asked
    c.loop-each.each-index c.loop-each.printer c.loop-each.answers c.loop-each-test.false (c.loop-each.invariant.1 f determines)) in
    (c.found.ensures ∙ said.0.found, said.1)
