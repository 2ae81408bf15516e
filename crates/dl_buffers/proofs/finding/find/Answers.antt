use Rattle.std.proofs.Common.{arith}
use Rattle.dl_buffers.proofs.FindLemmas.{finds_stopped}
use Rattle.dl_buffers.proofs.finding.find.Goals as goal

pub returns-in-Err : goal.returns-in-Err
returns-in-Err c =
    rw (c.tell_stop.ensures.told, c.tell_stop.ensures.status, ← c.dialect_of.ensures) (finds_stopped
    c.dialect_of.result c.args.section.now c.args.place c.args.row.now c.args.unit.now c.args.fault.now (omega arith)
    c.in-Err.stop c.in-Err.ensures)
