-- The lines so far were printed.
use Rattle.dl_index.specs.IsIndex.{IsIndex}
use Rattle.dl_index.specs.Shown.{bytes_of}
use Rattle.dl_path.proofs.PrintLemmas.{Fronts}
use Rattle.dl_listing.specs.Lines.{stretches_from}
use Rattle.dl_listing.specs.Listing.{listing, stretch_lines}
use Rattle.dl_listing.proofs.listing.print_all.Given as goal

abbrev pub invariant-loop-k : goal.invariant-loop-k
invariant-loop-k g l = record {
  printed : IsIndex (bytes_of l.index) → Fronts (g.W.Write.contents l.initial.output) (g.W.Write.contents l.output)
      l.initial.printer l.printer (listing (bytes_of l.index)) (stretch_lines (stretches_from (bytes_of l.index) l.k));
}
