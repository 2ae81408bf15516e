use Rattle.dl_sources.proofs.OrderLemmas.{texts_in_order}
use Rattle.dl_sources.proofs.laws.texts_in_order.Goals as goal

pub returns : goal.returns
returns c = texts_in_order
