use Rattle.dl_num.proofs.GroupLemmas.{uleb_more, uleb_some, uleb_none}
use Rattle.dl_num.proofs.leb.Uleb.push.Goals as goal

pub returns-then-byte-ge128-clause-answer : goal.returns-then-byte-ge128-clause-answer
returns-then-byte-ge128-clause-answer c =
    λ w took. uleb_more w c.args.byte took c.if-byte-ge128.true _ _
    (c.add_digit-number.ensures _ _ took.number took.weight) (c.next_weight-self.ensures _ took.weight)

pub returns-in-Some-clause-answer : goal.returns-in-Some-clause-answer
returns-in-Some-clause-answer c =
    λ w took. (
      uleb_some w c.args.byte took c.if-byte-ge128.false c.in-Some.n (c.in-Some.ensures _ _ took.number took.weight),
      c.new.ensures,
    )

pub returns-in-None-clause-answer : goal.returns-in-None-clause-answer
returns-in-None-clause-answer c =
    λ w took. (
      uleb_none w c.args.byte took c.if-byte-ge128.false (c.in-None.ensures _ _ took.number took.weight),
      c.new.ensures,
    )
