use Rattle.dl_head.proofs.HeaderLaws.{one_header}
use Rattle.dl_head.proofs.laws.one_header.Goals as goal

pub returns : goal.returns
returns c = one_header
