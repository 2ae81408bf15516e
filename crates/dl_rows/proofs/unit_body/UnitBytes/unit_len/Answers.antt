use Rattle.dl_rows.proofs.UnitBodyLemmas.{unit_len_is}
use Rattle.dl_rows.proofs.unit_body.UnitBytes.unit_len.Goals as goal

pub returns : goal.returns
returns c dialect b counts = unit_len_is counts c.saturating_add.ensures
