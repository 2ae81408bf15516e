use Rattle.dl_buffers.specs.PathCalls.{both_strings}
use Rattle.dl_buffers.proofs.UnitCallLemmas.{path_stop}
use Rattle.dl_buffers.proofs.naming.path_at.Goals as goal

pub returns-in-Err : goal.returns-in-Err
returns-in-Err c =
    let is = c.rest_from.ensures in
    rw (c.tell_stop.ensures.told, c.tell_stop.ensures.status, ← c.dialect_of.ensures, ← is.bytes) (path_stop
    c.dialect_of.result c.rest_from.result.now c.args.section.now c.args.offset is.bytes is.small
    c.ranges.offset.fits c.args.fault.now (both_strings c.args.line_str.now c.args.str.now)
    c.args.file c.args.path.now c.args.len.now c.in-Err.stop c.in-Err.ensures)
