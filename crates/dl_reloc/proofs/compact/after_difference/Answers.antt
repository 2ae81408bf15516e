use Rattle.std.proofs.Common.{◌≡◌, true, [], sym}
use Rattle.std.proofs.Common.{◌+◌, ◌%◌, ◌^◌, rules}
use Rattle.std.specs.Int.{w64, cast_unsigned}
use Rattle.dl_reloc.proofs.CompactLemmas.{difference_is, difference_too_large, no_difference}
use Rattle.dl_reloc.proofs.compact.after_difference.Goals as goal

pub returns-in_err-difference : goal.returns-in_err-difference
returns-in_err-difference c =
    let on : c.args.flag ≡ true = c.if-not-flag.false in
    let all = (c.in_err-difference.ensures.answer [] c.new.ensures).continue in
    rw (on, c.from_residual.ensures) (sym (no_difference c.args.before c.args.bytes.now all))

pub returns-in-Ok-default : goal.returns-in-Ok-default
returns-in-Ok-default c =
    let on : c.args.flag ≡ true = c.if-not-flag.false in
    let is = rw c.in-Ok-default.is-0 at (c.in_ok-difference.ensures.answer [] c.new.ensures) in
    let range = rw c.in-Ok-default.is-0 at c.in_ok-difference.ensures.fits in
    let d = c.in-Ok-default.difference in
    let sum : c.wrapping_add_signed.result ≡ (c.args.before + cast_unsigned w64 d) % 2 ^ 64 = search rules in
    rw (on, sum) (sym (difference_is c.args.before c.args.bytes.now is.0 c.in_ok-difference.field-0.1.now d is.1 is.2
    range))

pub returns-in-Err-default : goal.returns-in-Err-default
returns-in-Err-default c =
    let on : c.args.flag ≡ true = c.if-not-flag.false in
    let is = rw c.in-Err-default.is-0 at (c.in_ok-difference.ensures.answer [] c.new.ensures) in
    rw on (sym (difference_too_large c.args.before c.args.bytes.now is.0 c.in_ok-difference.field-0.1.now is.2.0 is.1
    is.2.1 is.2.2))
