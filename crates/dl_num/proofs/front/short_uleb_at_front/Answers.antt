use Rattle.std.proofs.Common.{arith}
use Rattle.dl_num.proofs.ReadBack.{unsigned_byte, unsigned_bytes}
use Rattle.dl_num.proofs.front.short_uleb_at_front.Goals as goal

pub returns-in-len1-up-clause-number : goal.returns-in-len1-up-clause-number
returns-in-len1-up-clause-number c = unsigned_byte c.args.bytes.now _ (omega arith) c.from.ensures c.if-last-lt128.true

pub returns-in-len2-up-clause-number : goal.returns-in-len2-up-clause-number
returns-in-len2-up-clause-number c =
    unsigned_bytes c.args.bytes.now _ _ (omega arith) c.from-in-len2-up.ensures c.from-in-len2-up-2.ensures
    (omega arith) c.if-last-lt128-2.true
