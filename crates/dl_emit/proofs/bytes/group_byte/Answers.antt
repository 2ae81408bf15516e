use Rattle.std.proofs.Common.{arith}
use Rattle.dl_emit.proofs.SignedLemmas.{one_group}
use Rattle.dl_emit.proofs.bytes.group_byte.Goals as goal

pub returns : goal.returns
returns c =
    rw c.turned.ensures.value
    (one_group c.args.negative c.args.magnitude (omega (arith, c.if-magnitude-ge64.false)))
