-- There is a search for each line so far, and room for the others.
use Rattle.std.proofs.Common.{◌≡◌, ◌<◌, ◌≤◌, ℕ, length, slice_index_or, vec_capacity}
use Rattle.dl_lines.specs.declared.question.Wanted.{Wanted}
use Rattle.dl_lines.specs.declared.search.Search.{Search}
use Rattle.dl_lines.specs.Kept.{is_exact}
use Rattle.dl_lines.specs.Searching.{IsNew}
use Rattle.dl_lines.proofs.searches.searches_for.Given as goal

abbrev pub invariant-loop-each : goal.invariant-loop-each
invariant-loop-each g l = record {
  capacity : length l.wanted ≤ vec_capacity l.searches;
  count : length l.searches.items ≡ l.each-index;
  new : (i : ℕ) (d : Search) (w : Wanted) → i < l.each-index
      → IsNew (slice_index_or l.searches.items i d) (slice_index_or l.wanted i w) (is_exact l.lines);
}
