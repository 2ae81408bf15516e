use Rattle.dl_path.proofs.PathTextLemmas.{texts_make_path}
use Rattle.dl_path.proofs.laws.texts_make_path.Goals as goal

pub returns : goal.returns
returns c = texts_make_path
