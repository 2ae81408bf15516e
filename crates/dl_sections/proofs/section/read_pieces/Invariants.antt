use Rattle.dl_sections.proofs.ReadLemmas.{ReadSo}
use Rattle.dl_input.specs.Failing.{Became}
use Rattle.dl_sections.proofs.section.read_pieces.Given as goal

abbrev pub invariant-pieces : goal.invariant-pieces
invariant-pieces g l = record {
  so : ReadSo g.V.Visitor.story l.options.dialect l.options.limit (g.R.Read.remaining l.initial.input)
      (g.R.Read.remaining l.input) l.initial.visitor l.visitor (g.W.Write.contents l.initial.output)
      (g.W.Write.contents l.output) l.units l.left;
  follows : (first : _) → Became g.R.Source.follows first l.initial.input → Became g.R.Source.follows first l.input;
}

abbrev pub decreases-pieces : goal.decreases-pieces
decreases-pieces g l = l.left
