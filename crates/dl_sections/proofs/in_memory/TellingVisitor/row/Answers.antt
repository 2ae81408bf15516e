use Rattle.dl_rows.specs.Items.{a_row}
use Rattle.dl_sections.specs.Section.{of_item}
use Rattle.dl_sections.proofs.TellingVisits.{told_on}
use Rattle.dl_sections.proofs.in_memory.TellingVisitor.row.Goals as goal

pub returns-clause-heard : goal.returns-clause-heard
returns-clause-heard g c first start visits s =
    told_on s (of_item (a_row c.args._header.now c.args.row.now)) _ _ (record {
      sink = s.passed.sink;
      offset = s.passed.offset;
      version = s.passed.version;
      nothing = s.passed.nothing;
    }) (c.row.ensures first.sink.now _ _ s.hears)
