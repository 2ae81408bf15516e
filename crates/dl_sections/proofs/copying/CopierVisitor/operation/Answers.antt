use Rattle.std.proofs.Common.{refl}
use Rattle.dl_rows.specs.Items.{an_operation}
use Rattle.dl_sections.specs.Section.{of_item}
use Rattle.dl_sections.proofs.CopierLemmas.{copies_past}
use Rattle.dl_sections.proofs.copying.CopierVisitor.operation.Goals as goal

pub returns-clause-heard : goal.returns-clause-heard
returns-clause-heard g c first start visits s = copies_past s (of_item (an_operation c.args._header.now c.args._operation)) refl (λ h. refl)
