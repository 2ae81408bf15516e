use Rattle.dl_sections.proofs.Names.{append-nil, of_header}
use Rattle.dl_sections.proofs.PassingLemmas.{told-push}
use Rattle.dl_sections.proofs.passing_over.OtherVersionsVisitor.header.Goals as goal

pub returns-clause-heard : goal.returns-clause-heard
returns-clause-heard g c first start visits (kept, spans) =
    (kept, rw (told-push visits (of_header c.args._offset c.args._lengths c.args._header.now), append-nil) spans)
