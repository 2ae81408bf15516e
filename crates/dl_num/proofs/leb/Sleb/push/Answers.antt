use Rattle.dl_num.proofs.GroupLemmas.{sleb_more, sleb_ends}
use Rattle.dl_num.proofs.leb.Sleb.push.Goals as goal

pub returns-then-byte-ge128-clause-answer : goal.returns-then-byte-ge128-clause-answer
returns-then-byte-ge128-clause-answer c =
    λ w took. sleb_more w c.args.byte took c.if-byte-ge128.true _ _ _
    (c.add_digit-number.ensures _ _ took.number took.weight) (c.add_digit-turned.ensures _ _ took.turned took.weight)
    (c.next_weight-self.ensures _ took.weight)

pub returns-clause-answer : goal.returns-clause-answer
returns-clause-answer c =
    λ w took. sleb_ends w c.args.byte took c.if-byte-ge128.false c.signed.result c.new.result
    (c.signed.ensures _ _ (c.add_digit-number.ensures _ _ took.number took.weight)
    (c.add_digit-turned.ensures _ _ took.turned took.weight)) c.new.ensures
