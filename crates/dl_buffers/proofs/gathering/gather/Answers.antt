use Rattle.dl_buffers.proofs.AllLemmas.{begins, ends_so, ends_well}
use Rattle.dl_buffers.proofs.gathering.gather.Goals as goal

pub returns-in-Ok : goal.returns-in-Ok
returns-in-Ok c addresses stands none =
    ends_well c.args.dialect c.args.section.now addresses _ c.read_section-read.new.sink _ _ (search) (search) stands
    none _ (c.in-Ok.ensures (begins _))

pub returns-in-Err : goal.returns-in-Err
returns-in-Err c addresses stands none =
    ends_so c.args.dialect c.args.section.now addresses _ c.read_section-read.new.sink _ _ (search) (search) stands
    none _ (c.in-Err.ensures (begins _))
