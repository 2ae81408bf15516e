use Rattle.dl_sections.proofs.TellingVisits.{ended}
use Rattle.dl_sections.proofs.in_memory.TellingVisitor.end.Goals as goal

pub returns-clause-heard : goal.returns-clause-heard
returns-clause-heard g c first start visits s told =
    ended s c.args.header _ _ c.end.result (record {
      sink = s.passed.sink;
      offset = s.passed.offset;
      version = s.passed.version;
      nothing = s.passed.nothing;
    }) (rw (← s.passed.offset, ← s.passed.version) (c.end.ensures first.sink.now _ _ s.hears))
