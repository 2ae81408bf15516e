use Rattle.dl_addr.proofs.UndamagedLemmas.{same_without_damage}
use Rattle.dl_addr.proofs.laws.same_without_damage.Goals as goal

pub returns : goal.returns
returns c = same_without_damage
