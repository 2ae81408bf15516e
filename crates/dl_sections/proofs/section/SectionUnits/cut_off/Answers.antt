use Rattle.dl_sections.proofs.UnitsLemmas.{nothing_begun, cuts_off}
use Rattle.dl_sections.proofs.section.SectionUnits.cut_off.Goals as goal

pub returns-in-Ok : goal.returns-in-Ok
returns-in-Ok c dialect past t units b are none sound short =
    nothing_begun dialect past c.args.self.now t units b are none sound c.in-Ok.field-0 c.in-Ok.ensures

pub returns-in-Err : goal.returns-in-Err
returns-in-Err c dialect past t units b are none sound short =
    cuts_off dialect past c.args.self.now t units b are none sound c.in-Err.fault _ c.in-Err.ensures short
    c.saturating_add.ensures
