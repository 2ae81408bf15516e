use Rattle.dl_sections.proofs.AroundTelling.{given_back}
use Rattle.dl_sections.proofs.around_in_memory.read_section_around.Goals as goal

pub returns : goal.returns
returns g c hears =
    given_back g.U.UnitSink.story c.args.dialect c.args.section.now _ c.read_known_around.new.telling _
    c.read_known_around.result (c.read_known_around.ensures c.args.dialect c.new-units.ensures hears) (search)
