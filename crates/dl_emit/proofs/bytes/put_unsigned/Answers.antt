use Rattle.std.proofs.Common.{append_assoc}
use Rattle.dl_emit.proofs.SignedLemmas.{one_byte}
use Rattle.dl_emit.proofs.bytes.put_unsigned.Goals as goal

pub returns-then-operand-lt128-clause-put : goal.returns-then-operand-lt128-clause-put
returns-then-operand-lt128-clause-put c =
    rw (
      c.put_byte.ensures.put,
      c.put_byte-at.ensures.put,
      one_byte c.args.operand c.if-operand-lt128.true,
    )
    (simp append_assoc)
