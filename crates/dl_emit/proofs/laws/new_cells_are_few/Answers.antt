use Rattle.dl_emit.proofs.CellLemmas.{few_cells}
use Rattle.dl_emit.proofs.laws.new_cells_are_few.Goals as goal

pub returns : goal.returns
returns c h directory sound = few_cells h directory sound.directories sound.files
