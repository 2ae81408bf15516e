use Rattle.std.proofs.Common.{List, [], ◌∷◌, refl}
use Rattle.dl_rows.specs.Items.{a_byte}
use Rattle.dl_sections.specs.Section.{Visit, of_item}
use Rattle.dl_sections.proofs.VisitLemmas.{bytes_by_one}
use Rattle.dl_addr.specs.Locating.{Locating}
use Rattle.dl_addr.proofs.LocatorLemmas.{goes_on}
use Rattle.dl_addr.proofs.locating.LocatorVisitor.bytes.Goals as goal

pub returns-clause-heard : goal.returns-clause-heard
returns-clause-heard g c first start visits s =
    bytes_by_one (λ (v : List Visit). Locating first c.args.self.now start (g.W.Write.contents c.args._output.now) v)
    (λ visits x s. goes_on first c.args.self.now c.args.self.now start (g.W.Write.contents c.args._output.now) visits
    (of_item (a_byte x) ∷ []) s (λ y n. refl) refl refl refl refl refl refl refl s.live refl refl (λ places units st. st) refl)
    visits c.args._bytes.now s
