use Rattle.dl_pack.proofs.LawLemmas.{apart_rise}
use Rattle.dl_pack.proofs.laws.stretches_rise.Goals as goal

pub returns : goal.returns
returns c = apart_rise
