use Rattle.std.proofs.Common.{[], ◌∷◌, refl}
use Rattle.dl_sections.specs.Section.{of_header}
use Rattle.dl_addr.proofs.LocatorLemmas.{goes_on}
use Rattle.dl_addr.proofs.locating.LocatorVisitor.header.Goals as goal

pub returns-clause-heard : goal.returns-clause-heard
returns-clause-heard g c first start visits s =
    goes_on first c.args.self.now (record c.args.self.now {
      unit =
          c.args.offset;
    }) start (g.W.Write.contents c.args._output.now) visits
    (of_header c.args.offset c.args._lengths c.args._header.now ∷ []) s
    (λ x n. refl) refl refl refl refl refl refl refl s.live refl refl (λ places units st. st) refl
