use Rattle.dl_sections.proofs.CopiedUnits.{copies_are_units}
use Rattle.dl_sections.proofs.laws.copies_are_units.Goals as goal

pub returns : goal.returns
returns c = copies_are_units
