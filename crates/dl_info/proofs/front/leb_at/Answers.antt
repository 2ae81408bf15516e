use Rattle.std.proofs.Common.{sym}
use Rattle.dl_info.proofs.FrontLemmas.{front_of, leb_here, no_leb, some_number}
use Rattle.dl_info.proofs.front.leb_at.Goals as goal

pub returns-in_default : goal.returns-in_default
returns-in_default c = sym (no_leb c.args.bytes.now c.in_default.ensures)

pub returns : goal.returns
returns c =
    let is = c.in-Some.ensures in
    let rest = c.in-Some.rest.now in
    let number = some_number is.0 c.in-Some.field-0-0 is.2 in
    rw (front_of c.args.bytes.now is.0 rest is.1) (sym (leb_here c.args.bytes.now is.0 rest number.0 is.1 number.1))
