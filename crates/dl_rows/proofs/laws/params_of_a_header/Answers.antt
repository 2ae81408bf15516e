use Rattle.dl_rows.proofs.HeaderParams.{header_fits}
use Rattle.dl_rows.proofs.laws.params_of_a_header.Goals as goal

pub returns : goal.returns
returns c = header_fits
