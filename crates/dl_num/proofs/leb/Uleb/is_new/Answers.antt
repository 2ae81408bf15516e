use Rattle.dl_num.proofs.GroupLemmas.{weight_new}
use Rattle.dl_num.proofs.leb.Uleb.is_new.Goals as goal

pub returns : goal.returns
returns c w took = weight_new w c.args.self.now.weight c.eq.result took.weight c.eq.ensures
