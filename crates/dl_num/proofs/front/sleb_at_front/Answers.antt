use Rattle.dl_num.proofs.LebFrontLemmas.{answer-map}
use Rattle.dl_num.proofs.front.sleb_at_front.Goals as goal

pub returns : goal.returns
returns c =
    answer-map c.take_from.result (λ took. took.continue) (λ found t. (t.0, t.1, t.2))
    (c.take_from.ensures.answer _ c.new.ensures)
