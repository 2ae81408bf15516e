use Rattle.std.proofs.Common.{sym, ◌<◌, ◌^◌, arith}
use Rattle.dl_info.proofs.FrontLemmas.{no_number, number_here, too_large}
use Rattle.dl_info.proofs.front.uleb_at.Goals as goal

pub returns-in_default : goal.returns-in_default
returns-in_default c = sym (no_number c.args.bytes.now c.in_default.ensures)

pub returns-in-Ok : goal.returns-in-Ok
returns-in-Ok c =
    let is = rw c.in-Ok.is at c.in-Some.ensures in
    let below : c.in-Ok.number < 2 ^ 64 = omega arith in
    sym (number_here c.args.bytes.now is.0 c.in-Some.rest.now c.in-Ok.number is.1 is.2 below)

pub returns-in-Err : goal.returns-in-Err
returns-in-Err c =
    let is = rw c.in-Err.is at c.in-Some.ensures in
    sym (too_large c.args.bytes.now is.0 c.in-Some.rest.now c.in-Err.field-0 is.1 is.2)
