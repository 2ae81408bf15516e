use Rattle.std.proofs.Common.{arith}
use Rattle.dl_emit.proofs.SignedLemmas.{two_groups}
use Rattle.dl_emit.proofs.bytes.group_pair.Goals as goal

pub returns : goal.returns
returns c =
    rw (c.turned-first.ensures.value, c.turned-last.ensures.value) (two_groups c.args.negative c.args.magnitude
    (omega (arith, c.if-magnitude-lt64.false)) (omega (arith, c.if-magnitude.false)))
