use Rattle.dl_dialogue.proofs.answers.Answers.answer_if_asked.Goals as goal

pub returns-in-Some-clause-answers : goal.returns-in-Some-clause-answers
returns-in-Some-clause-answers g c = λ first m start before stays determines stands.
    rw c.in-Some.is (c.answer.ensures.answers first m start before stays determines stands)
