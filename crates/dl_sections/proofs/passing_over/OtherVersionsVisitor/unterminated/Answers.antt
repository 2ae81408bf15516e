use Rattle.dl_sections.proofs.Names.{append-nil, of_open}
use Rattle.dl_sections.proofs.PassingLemmas.{told-push}
use Rattle.dl_sections.proofs.passing_over.OtherVersionsVisitor.unterminated.Goals as goal

pub returns-clause-heard : goal.returns-clause-heard
returns-clause-heard g c first start visits (kept, spans) =
    (kept, rw (told-push visits of_open, append-nil) spans)
