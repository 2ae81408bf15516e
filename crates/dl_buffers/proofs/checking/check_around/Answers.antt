use Rattle.dl_buffers.proofs.CheckLemmas.{checks_around, checks_refused}
use Rattle.dl_buffers.proofs.checking.check_around.Goals as goal

pub returns-in-Ok : goal.returns-in-Ok
returns-in-Ok c =
    rw (c.tell_damage.ensures.told, c.tell_damage.ensures.status) (checks_around c.args.dialect c.args.section.now _
    c.read_section_around.new.sink c.args.counts.now c.args.fault.now c.in-Ok.survey (c.in-Ok.ensures tt) c.of.result
    (rw (← c.damaged_units.ensures) c.of.ensures))

pub returns-in-Err : goal.returns-in-Err
returns-in-Err c =
    checks_refused c.args.dialect c.args.section.now _ c.read_section_around.new.sink c.args.counts.now
    c.args.fault.now (c.in-Err.ensures tt)
