use Rattle.dl_sections.proofs.AroundReads.{cuts_off, ends}
use Rattle.dl_sections.proofs.around.finish.Goals as goal

pub returns-in-Some : goal.returns-in-Some
returns-in-Some g c limit dialect t first start now left over short is =
    rw c.survey.ensures (cuts_off is limit left over short c.in-Some.damage
    (λ past s units b are none sound bound. c.in-Some.ensures dialect past s units b are none sound bound)
    c.damaged.ensures _ (λ faults few was. c.also.ensures faults few was))

pub returns-in-None : goal.returns-in-None
returns-in-None g c limit dialect t first start now left over short is =
    rw c.survey-in-None.ensures (ends is limit left over short
    (λ past s units b are none sound bound. c.in-None.ensures dialect past s units b are none sound bound))
