use Rattle.std.proofs.lemmas.Result.{err_from_is_err_and}
use Rattle.std.proofs.Common.{None, refl}
use Rattle.dl_buffers.proofs.UnitCallLemmas.{read_stopped, read_unit}
use Rattle.dl_buffers.proofs.unit.unit_at_front.Goals as goal

pub returns : goal.returns
returns c =
    rw c.at_front.ensures (read_unit c.args.dialect c.args.bytes.now (record { unit = None }) c.read_section.new.sink refl
    c.in_ok-read.read (c.in_ok-read.ensures (λ none. (refl, refl))))

pub returns-in_err-read : goal.returns-in_err-read
returns-in_err-read c =
    let p = err_from_is_err_and c.from_residual.result c.from_residual.ensures.1 in
    rw (p.1, p.2) (read_stopped c.args.dialect c.args.bytes.now (record { unit = None }) c.read_section.new.sink refl _
    (c.in_err-read.ensures (λ none. (refl, refl))))
