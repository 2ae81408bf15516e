use Rattle.std.proofs.Common.{◌+◌, ◌<◌, ◌++◌, ◌*◌, ◌^◌, length, min, ℕ, List, Option}
use Rattle.dl_head.specs.declared.dialect.Dialect.{Dialect}
use Rattle.dl_rows.specs.Progress.{taken_of}
use Rattle.dl_sections.specs.UnitsRead.{Before, UnitsAre, visits_since}
use Rattle.dl_sections.proofs.FeedLemmas.{FedUpTo}
use Rattle.dl_sections.proofs.section.SectionUnits.feed.Given as goal

-- each event uses a byte, but for a unit's end, which comes after at least one
abbrev pub decreases-events : goal.decreases-events
decreases-events g l = 2 * length l.rest + min (taken_of l.self.reader) 1

abbrev pub invariant-events : goal.invariant-events
invariant-events g l = record {
  fed : (dialect : Dialect) (past : Before dialect) (t : List ℕ) (units : List (List ℕ)) (b : List ℕ)
      (first : g.row.V.Denot) (start : Option (List ℕ)) → UnitsAre past l.initial.self t units b
      → length past.bytes + (length t + length l.piece) < 2 ^ 64
      → g.V.Visitor.story.tells first l.initial.visitor start (g.W.Write.contents l.initial.output)
      (visits_since past units b)
      → FedUpTo g.V.Visitor.story past (t ++ l.piece) first start l.self l.visitor (g.W.Write.contents l.output) l.rest;
}
