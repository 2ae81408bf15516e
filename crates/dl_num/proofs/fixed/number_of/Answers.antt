use Rattle.std.proofs.Common.{◌∙◌}
use Rattle.dl_num.proofs.FixedLemmas.{little_from-all, big_from-all}
use Rattle.dl_num.proofs.fixed.number_of.Goals as goal

pub returns-in-Little-order : goal.returns-in-Little-order
returns-in-Little-order c = rw c.in-Little-order.is (c.read_uint.ensures ∙ little_from-all c.args.bytes.now)

pub returns-in-Big-order : goal.returns-in-Big-order
returns-in-Big-order c = rw c.in-Big-order.is (c.read_uint-in-Big-order.ensures ∙ big_from-all c.args.bytes.now)
