use Rattle.std.proofs.Common.{◌∙◌}
use Rattle.dl_num.proofs.FixedLemmas.{little_from-all, big_from-all}
use Rattle.dl_info.proofs.front.number_of.Goals as goal

pub returns-in-Little : goal.returns-in-Little
returns-in-Little c = rw c.in-Little.is (c.read_uint.ensures ∙ little_from-all c.args.bytes.now)

pub returns-in-Big : goal.returns-in-Big
returns-in-Big c = rw c.in-Big.is (c.read_uint-in-Big.ensures ∙ big_from-all c.args.bytes.now)
