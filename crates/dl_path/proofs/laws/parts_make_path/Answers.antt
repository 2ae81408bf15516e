use Rattle.dl_path.proofs.PathTextLemmas.{parts_make_path}
use Rattle.dl_path.proofs.laws.parts_make_path.Goals as goal

pub returns : goal.returns
returns c = parts_make_path
