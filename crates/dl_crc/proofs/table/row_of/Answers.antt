use Rattle.std.proofs.Common.{[], get_or, ap, ◌∙◌}
use Rattle.dl_crc.specs.declared.table.TheConstants.{TABLES}
use Rattle.dl_crc.proofs.TableLemmas.{row_is}
use Rattle.dl_crc.proofs.table.row_of.Goals as goal

pub returns : goal.returns
returns c =
    ap (λ b. get_or (get_or TABLES c.args.later []) b 0) c.from.ensures
    ∙ row_is c.args.later c.args.byte c.requires c.ranges.byte.fits
