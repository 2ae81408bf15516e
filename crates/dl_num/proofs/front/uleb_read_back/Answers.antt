use Rattle.std.proofs.Common.{ap, Some}
use Rattle.dl_num.proofs.ReadBack.{uleb_back, not_open}
use Rattle.dl_num.proofs.front.uleb_read_back.Goals as goal

pub returns-in_err-found : goal.returns-in_err-found
returns-in_err-found c =
    let spells = c.uleb_bytes-bytes.ensures.shortest.spells in
    absurd (not_open _ spells.0 spells.1 spells.2 (rw c.as_slice.ensures.value at c.in_err-found.ensures))

pub returns : goal.returns
returns c =
    ap Some (uleb_back _ _ c.args.number (rw c.as_slice.ensures.value c.uleb_bytes-bytes.ensures.shortest.spells)
    c.ranges.number.fits _ c.in_ok-found.ensures)
