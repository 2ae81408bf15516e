use Rattle.std.proofs.Common.{[], ◌∷◌, refl}
use Rattle.dl_sections.specs.Section.{of_open}
use Rattle.dl_addr.proofs.LocatorLemmas.{goes_on}
use Rattle.dl_addr.proofs.locating.LocatorVisitor.unterminated.Goals as goal

pub returns-clause-heard : goal.returns-clause-heard
returns-clause-heard g c first start visits s =
    goes_on first c.args.self.now c.args.self.now start (g.W.Write.contents c.args._output.now) visits (of_open ∷ []) s
    (λ x n. refl) refl refl refl refl refl refl refl s.live refl refl (λ places units st. st) refl
