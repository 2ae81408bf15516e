use Rattle.std.proofs.Common.{List, ℕ, ◌++◌, take, arith, append_assoc, subst}
use Rattle.dl_num.specs.LebReader.{SlebIs}
use Rattle.dl_num.proofs.ReadBack.{split_at}
use Rattle.dl_num.proofs.leb.Sleb.take_from.Goals as goal

pub returns-in-Some-clause-answer : goal.returns-in-Some-clause-answer
returns-in-Some-clause-answer c w took =
    let xs = c.args.bytes.now in
    let i = c.loop-i.i in
    let answer = c.in-Some.ensures.answer (w ++ take i xs) (c.loop-i.invariant w took) in (
      _,
      split_at xs i (omega arith),
      subst (λ (z : List ℕ). SlebIs z c.in-Some.number) (append_assoc w (take i xs) _) answer.0,
      answer.1,
    )
