use Rattle.dl_buffers.proofs.UnitCallLemmas.{describes_stop}
use Rattle.dl_buffers.proofs.describing.unit_at.Goals as goal

pub returns-in-Err : goal.returns-in-Err
returns-in-Err c =
    let is = c.rest_from-bytes.ensures in
    rw (c.tell_stop.ensures.told, c.tell_stop.ensures.status, ← c.dialect_of.ensures, ← is.bytes) (describes_stop
    c.dialect_of.result c.rest_from-bytes.result.now c.args.section.now c.args.offset is.bytes is.small
    c.ranges.offset.fits c.args.fault.now c.args.unit.now c.in-Err.stop c.in-Err.ensures)
