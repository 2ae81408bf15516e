use Rattle.std.proofs.Common.{◌^◌, []}
use Rattle.dl_reloc.proofs.CompactLemmas.{front_number, front_too_large, no_front, rest_is}
use Rattle.dl_reloc.proofs.compact.unsigned_front.Goals as goal

pub returns-in_err-number : goal.returns-in_err-number
returns-in_err-number c =
    rw c.from_residual.ensures
    (no_front (2 ^ 64) c.args.bytes.now (c.in_err-number.ensures.answer [] c.new.ensures).continue)

pub returns-in-Ok-default : goal.returns-in-Ok-default
returns-in-Ok-default c =
    let is = rw c.in-Ok-default.is-0 at (c.in_ok-number.ensures.answer [] c.new.ensures) in
    let below = rw c.in-Ok-default.is-0 at c.in_ok-number.ensures.fits in
    let bytes = c.args.bytes.now in
    let rest = c.in_ok-number.field-0.1.now in (
      front_number (2 ^ 64) bytes is.0 rest c.in-Ok-default.number is.1 is.2 below,
      rest_is bytes is.0 rest c.in-Ok-default.number is.1 is.2,
    )

pub returns-in-Err-default : goal.returns-in-Err-default
returns-in-Err-default c =
    let is = rw c.in-Err-default.is-0 at (c.in_ok-number.ensures.answer [] c.new.ensures) in
    front_too_large (2 ^ 64) c.args.bytes.now is.0 c.in_ok-number.field-0.1.now is.2.0 is.1 is.2.1 is.2.2
