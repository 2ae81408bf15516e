use Rattle.dl_sections.proofs.UnitsLemmas.{nothing_begun, ends_begun}
use Rattle.dl_sections.proofs.section.SectionUnits.finish.Goals as goal

pub returns-in-Ok : goal.returns-in-Ok
returns-in-Ok c dialect past t units b are none sound short =
    (nothing_begun dialect past c.args.self.now t units b are none sound c.in-Ok.field-0 c.in-Ok.ensures, are.summary)

pub returns-in-Err : goal.returns-in-Err
returns-in-Err c dialect past t units b are none sound short =
    ends_begun dialect past c.args.self.now t units b are none sound c.in-Err.fault c.damage.result c.in-Err.ensures short
    c.damage.ensures
