use Rattle.std.proofs.Common.{None}
use Rattle.dl_locating.proofs.locating.unanswered.Goals as goal

pub returns-clause-answers : goal.returns-clause-answers
returns-clause-answers g c =
    let e = c.answer_asked.ensures.answers in
    (e.0, e.1, λ understood. (c.answer_asked.result, e.2 (λ a. None) (λ address told none. none) understood))

pub returns-clause-reads : goal.returns-clause-reads
returns-clause-reads g c first is = (c.answer_asked.ensures.blames first is).0
