use Rattle.std.proofs.Common.{append-nil, map}
use Rattle.std.proofs.lemmas.Grind.{flat_map-append}
use Rattle.dl_rows.specs.Items.{a_byte}
use Rattle.dl_sections.specs.Section.{of_item}
use Rattle.dl_sections.specs.PassingOver.{version_told}
use Rattle.dl_sections.proofs.PassingLemmas.{items_tell_none}
use Rattle.dl_sections.proofs.passing_over.OtherVersionsVisitor.bytes.Goals as goal

pub returns-clause-heard : goal.returns-clause-heard
returns-clause-heard g c first start visits (kept, spans) =
    let told = map a_byte c.args._bytes.now in
    (kept, rw (flat_map-append version_told visits (map of_item told), items_tell_none told, append-nil) spans)
