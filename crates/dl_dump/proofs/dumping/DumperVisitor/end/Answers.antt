use Rattle.std.proofs.Common.{◌∷◌, [], refl}
use Rattle.dl_sections.specs.Section.{of_end}
use Rattle.dl_dump.proofs.ShowingLemmas.{shows_nothing}
use Rattle.dl_dump.proofs.dumping.DumperVisitor.end.Goals as goal

pub returns-clause-heard : goal.returns-clause-heard
returns-clause-heard g c first start visits showed header =
    shows_nothing showed (of_end c.args._header ∷ []) refl refl refl
