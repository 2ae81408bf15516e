use Rattle.std.proofs.Common.{refl}
use Rattle.dl_sections.specs.Section.{of_version}
use Rattle.dl_sections.proofs.TellingVisits.{told_on}
use Rattle.dl_sections.proofs.in_memory.TellingVisitor.foreign.Goals as goal

pub returns-clause-heard : goal.returns-clause-heard
returns-clause-heard g c first start visits s =
    told_on s (of_version c.args.offset c.args.version) _ _ (record {
      sink = s.passed.sink;
      offset = refl;
      version = refl;
      nothing = s.passed.nothing;
    }) s.hears
