use Rattle.dl_sections.proofs.Names.{of_open, refl}
use Rattle.dl_sections.proofs.CopierLemmas.{copies_past}
use Rattle.dl_sections.proofs.copying.CopierVisitor.unterminated.Goals as goal

pub returns-clause-heard : goal.returns-clause-heard
returns-clause-heard g c first start visits s = copies_past s of_open refl (λ h. refl)
