use Rattle.dl_rows.specs.Items.{a_row}
use Rattle.dl_sections.proofs.Names.{append-nil, of_item}
use Rattle.dl_sections.proofs.PassingLemmas.{told-push}
use Rattle.dl_sections.proofs.passing_over.OtherVersionsVisitor.row.Goals as goal

pub returns-clause-heard : goal.returns-clause-heard
returns-clause-heard g c first start visits (kept, spans) =
    (kept, rw (told-push visits (of_item (a_row c.args._header.now c.args._row.now)), append-nil) spans)
