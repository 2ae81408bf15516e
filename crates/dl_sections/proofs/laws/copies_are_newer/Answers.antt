use Rattle.dl_sections.proofs.CopiedUnits.{copies_are_newer}
use Rattle.dl_sections.proofs.laws.copies_are_newer.Goals as goal

pub returns : goal.returns
returns c = copies_are_newer
