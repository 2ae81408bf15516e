use Rattle.dl_head.proofs.CellLemmas.{few_cells}
use Rattle.dl_head.proofs.HeaderCells.{header_holds_its_cells}
use Rattle.dl_head.proofs.laws.few_cells.Goals as goal

pub returns-clause-few : goal.returns-clause-few
returns-clause-few c = few_cells

pub returns-clause-whole : goal.returns-clause-whole
returns-clause-whole c = header_holds_its_cells
