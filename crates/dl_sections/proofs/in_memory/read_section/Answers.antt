use Rattle.dl_sections.proofs.TellingVisits.{given_back}
use Rattle.dl_sections.proofs.in_memory.read_section.Goals as goal

pub returns : goal.returns
returns g c hears =
    given_back g.U.UnitSink.story c.args.dialect c.args.section.now _ c.read_known.new.telling _ c.read_known.result
    (c.read_known.ensures c.args.dialect c.new-units.ensures.units hears) (search)
