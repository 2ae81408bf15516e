use Rattle.std.proofs.Common.{◌+◌, ◌≤◌, ◌^◌, length, ℕ, List, Option}
use Rattle.dl_head.specs.declared.dialect.Dialect.{Dialect}
use Rattle.dl_sections.proofs.AroundLemmas.{PassedTo}
use Rattle.dl_sections.proofs.around.UnitsAround.feed.Given as goal

-- each damaged unit takes a byte at least
abbrev pub decreases-units : goal.decreases-units
decreases-units g l = length l.rest

abbrev pub invariant-units : goal.invariant-units
invariant-units g l = record {
  short : l.self.read + length l.rest ≤ 2 ^ 63;
  counted : l.self.read + length l.rest ≤ l.initial.self.read + length l.initial.rest;
  fed : (dialect : Dialect) (s : List ℕ) (first : g.row.V.Denot) (start : Option (List ℕ))
      → PassedTo g.V.Visitor.story dialect s first l.initial.visitor start (g.W.Write.contents l.initial.output)
      l.initial.self l.initial.rest
      → PassedTo g.V.Visitor.story dialect s first l.visitor start (g.W.Write.contents l.output) l.self l.rest;
}
