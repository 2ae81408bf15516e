use Rattle.std.proofs.Common.{ap, arith}
use Rattle.dl_field.specs.declared.params.Params.{Params}
use Rattle.dl_head.specs.HeaderLayout.{initial_size}
use Rattle.dl_head.proofs.OrderLemmas.{length-header, written_limit-le}
use Rattle.dl_head.proofs.write.header_len.Goals as goal

pub returns-clause-len : goal.returns-clause-len
returns-clause-len c = λ order.
    let h = c.args.header.now in
    let all = length-header order h c.args.program_len in
    let limit = written_limit-le c.params.result.now.format in
    let initial = ap (λ (p : Params). initial_size p.format) c.params.ensures.value in
    omega arith
