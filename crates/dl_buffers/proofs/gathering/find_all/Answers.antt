use Rattle.std.proofs.Common.{◌≡◌, arith, length}
use Rattle.dl_buffers.proofs.gathering.find_all.Goals as goal

pub returns : goal.returns
returns g c =
    let addresses = c.args.addresses.now in
    let fit : length c.args.units.now ≡ length addresses = omega (arith, c.if-units-addresses.false) in
    let fits : length c.args.rows.now ≡ length addresses = omega (arith, c.if-rows-addresses.false) in
    c.answer_all.ensures addresses c.in-Ok.ensures.stand (fits, fit)
