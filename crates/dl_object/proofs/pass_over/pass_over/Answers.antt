use Rattle.std.proofs.Common.{◌-◌, length, arith}
use Rattle.dl_object.proofs.PassedOver.{passed}
use Rattle.dl_object.proofs.pass_over.pass_over.Goals as goal

pub returns : goal.returns
returns c =
    let n = length c.args.bytes.now in
    passed c.fill.new.self n (n - 2) (n - 3) (omega arith) (omega arith) (c.fill.ensures.after (λ y e. e))
