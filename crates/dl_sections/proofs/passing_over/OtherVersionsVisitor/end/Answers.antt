use Rattle.dl_sections.proofs.Names.{append-nil, of_end}
use Rattle.dl_sections.proofs.PassingLemmas.{told-push}
use Rattle.dl_sections.proofs.passing_over.OtherVersionsVisitor.end.Goals as goal

pub returns-clause-heard : goal.returns-clause-heard
returns-clause-heard g c first start visits (kept, spans) header =
    (kept, rw (told-push visits (of_end c.args._header), append-nil) spans)
