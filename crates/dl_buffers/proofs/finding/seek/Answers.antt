use Rattle.std.proofs.Common.{None, refl}
use Rattle.std.proofs.lemmas.Result.{err_from_is_err_and}
use Rattle.dl_buffers.proofs.FindLemmas.{seeks, stops}
use Rattle.dl_buffers.proofs.finding.seek.Goals as goal

pub returns : goal.returns
returns c =
    seeks c.args.dialect c.args.section.now (record { place = c.args.place; finder = c.new.result; found = None })
    c.read_section.new.sink
    (c.in_ok-read_section.ensures (record { place = refl; found = refl; none = tt; stands = c.new.ensures }))

pub returns-in_err-read_section : goal.returns-in_err-read_section
returns-in_err-read_section c =
    let p = err_from_is_err_and c.from_residual.result c.from_residual.ensures.1 in
    rw (p.1, p.2) (stops c.args.dialect c.args.section.now (record { place = c.args.place; finder = c.new.result; found = None })
    c.read_section.new.sink _
    (c.in_err-read_section.ensures (record { place = refl; found = refl; none = tt; stands = c.new.ensures })))
