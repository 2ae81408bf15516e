use Rattle.dl_buffers.proofs.AllLemmas.{begins, ends_around, refused_around}
use Rattle.dl_buffers.proofs.gathering.gather_around.Goals as goal

pub returns-in-Ok : goal.returns-in-Ok
returns-in-Ok c addresses stands none =
    ends_around c.args.dialect c.args.section.now addresses _ c.read_section_around-read.new.sink _ _ (search) (search)
    stands none c.in-Ok.survey (c.in-Ok.ensures (begins _))

pub returns-in-Err : goal.returns-in-Err
returns-in-Err c addresses stands none =
    refused_around c.args.dialect c.args.section.now addresses _ c.read_section_around-read.new.sink _ _ (search)
    (search) stands none (c.in-Err.ensures (begins _))
