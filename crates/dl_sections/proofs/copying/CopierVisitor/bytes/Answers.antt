use Rattle.std.proofs.Common.{List}
use Rattle.dl_sections.specs.Section.{Visit}
use Rattle.dl_sections.specs.Copying.{Copying}
use Rattle.std.proofs.Common.{refl}
use Rattle.dl_rows.specs.Items.{a_byte}
use Rattle.dl_sections.specs.Section.{of_item}
use Rattle.dl_sections.proofs.CopierLemmas.{copies_past}
use Rattle.dl_sections.proofs.VisitLemmas.{bytes_by_one}
use Rattle.dl_sections.proofs.copying.CopierVisitor.bytes.Goals as goal

pub returns-clause-heard : goal.returns-clause-heard
returns-clause-heard g c first start visits s =
    bytes_by_one (λ (v : List Visit). Copying first c.args.self.now start (g.W.Write.contents c.args._output.now) v)
    (λ visits x s. copies_past s (of_item (a_byte x)) refl (λ h. refl)) visits c.args._bytes.now s
