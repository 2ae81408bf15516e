use Rattle.std.proofs.Common.{arith}
use Rattle.dl_buffers.proofs.CheckLemmas.{checks, checks_stopped}
use Rattle.dl_buffers.proofs.checking.check_to_fault.Goals as goal

pub returns-in-Ok : goal.returns-in-Ok
returns-in-Ok c =
    checks c.args.dialect c.args.section.now _ c.read_section.new.sink c.args.counts.now c.args.fault.now c.in-Ok.read
    (c.in-Ok.ensures tt) c.of.result c.of.ensures

pub returns-in-Err : goal.returns-in-Err
returns-in-Err c =
    rw (c.tell_stop.ensures.told, c.tell_stop.ensures.status) (checks_stopped c.args.dialect c.args.section.now _
    c.read_section.new.sink c.args.counts.now c.args.fault.now (omega arith) c.in-Err.stop (c.in-Err.ensures tt))
