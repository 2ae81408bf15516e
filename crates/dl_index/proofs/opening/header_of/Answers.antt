use Rattle.dl_index.specs.IsIndex.{HeaderAgrees}
use Rattle.dl_index.proofs.HeaderLemmas.{agrees_all, agrees_front}
use Rattle.dl_index.proofs.opening.header_of.Goals as goal

pub returns-in-Ok-clause-header : goal.returns-in-Ok-clause-header
returns-in-Ok-clause-header c b same len =
    let is = c.in-Ok.ensures.header b same len in (
      record {
        whole = is.0.whole;
        placed = is.0.placed;
        sum = agrees_all c.args.front.now b same c.if-header_agrees.ensures;
      },
      is.1,
    )

pub returns-in-Ok-2-clause-header : goal.returns-in-Ok-2-clause-header
returns-in-Ok-2-clause-header c b same len =
    let is = (c.in-Ok-2.ensures.header b same len).0 in
    let not : ¬ (HeaderAgrees b) = λ agrees. c.if-header_agrees.ensures (agrees_front c.args.front.now b same agrees) in
    ((is.whole, is.placed, λ both. not both.0), λ headed. not headed.sum)

pub returns-in-Err-clause-header : goal.returns-in-Err-clause-header
returns-in-Err-clause-header c b same len =
    let is = c.in-Err.ensures.header b same len in
    (is.0, λ headed. is.1 (record { whole = headed.whole; placed = headed.placed }))
