use Rattle.std.proofs.Common.{refl}
use Rattle.std.proofs.KnownBytes.{Keeps-refl}
use Rattle.dl_open.proofs.SectionLemmas.{read_some}
use Rattle.dl_open.proofs.section.read_once.Goals as goal

pub returns-in-Ok-clause-read : goal.returns-in-Ok-clause-read
returns-in-Ok-clause-read g c =
    read_some _ _ _ _ _ _ _ refl (Keeps-refl _) c.in-Ok.ensures.bound.0 c.in-Ok.ensures.bytes c.in-Ok.ensures.ends
