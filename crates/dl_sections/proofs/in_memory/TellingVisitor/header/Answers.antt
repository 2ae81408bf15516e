use Rattle.std.proofs.Common.{refl}
use Rattle.dl_sections.specs.Section.{of_header}
use Rattle.dl_sections.proofs.TellingVisits.{told_on}
use Rattle.dl_sections.proofs.in_memory.TellingVisitor.header.Goals as goal

pub returns-clause-heard : goal.returns-clause-heard
returns-clause-heard g c first start visits s =
    told_on s (of_header c.args.offset c.args._lengths c.args._header.now) _ _ (record {
      sink = s.passed.sink;
      offset = refl;
      version = refl;
      nothing = s.passed.nothing;
    }) s.hears
