use Rattle.std.proofs.Common.{[], ◌∷◌, refl}
use Rattle.dl_rows.specs.Items.{an_operation}
use Rattle.dl_sections.specs.Section.{of_item}
use Rattle.dl_addr.proofs.LocatorLemmas.{goes_on}
use Rattle.dl_addr.proofs.locating.LocatorVisitor.operation.Goals as goal

pub returns-clause-heard : goal.returns-clause-heard
returns-clause-heard g c first start visits s =
    goes_on first c.args.self.now c.args.self.now start (g.W.Write.contents c.args._output.now) visits
    (of_item (an_operation c.args._header.now c.args._operation) ∷ []) s (λ y n. refl) refl refl refl refl refl refl refl s.live refl refl (λ places units st. st) refl
