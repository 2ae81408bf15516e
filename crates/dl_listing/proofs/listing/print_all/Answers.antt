use Rattle.std.proofs.Common.{◌+◌, ◌<◌, ◌≤◌, ℕ, List, subst}
use Rattle.std.proofs.lemmas.Result.{err_from_is_err_and}
use Rattle.dl_index.specs.Shown.{bytes_of}
use Rattle.dl_path.proofs.PrintLemmas.{Fronts, all_fronts, front_lost, front_more, nothing_yet}
use Rattle.dl_listing.specs.Lines.{line_of, stretches_from}
use Rattle.dl_listing.specs.Listing.{listing, stretch_lines}
use Rattle.dl_listing.proofs.StretchLemmas.{from_the_first, line_first, no_line}
use Rattle.dl_listing.proofs.listing.print_all.Goals as goal

pub loop-k-init : goal.loop-k-init
loop-k-init g c =
    let b = bytes_of c.args.index.now in
    let old = g.W.Write.contents c.args.output.now in
    record {
      printed = λ index. subst (λ (l : List ℕ). Fronts old old c.args.printer.now c.args.printer.now (listing b) l)
          (from_the_first b) (nothing_yet old c.args.printer.now (listing b));
    }

pub returns-in_err-print_line-clause-printed : goal.returns-in_err-print_line-clause-printed
returns-in_err-print_line-clause-printed g c index start text h =
    let p = err_from_is_err_and c.from_residual.result c.from_residual.ensures.1 in
    let b = bytes_of c.args.index.now in
    let l = c.loop-k in
    let lt = subst (λ (n : ℕ). l.k < n) c.count-k-end.ensures c.loop-k-test.true in
    rw (p.1, p.2) (front_lost (g.W.Write.contents c.args.output.now) (g.W.Write.contents l.output)
    (g.W.Write.contents c.print_line.new.output) c.args.printer.now l.printer (listing b)
    (stretch_lines (stretches_from b l.k)) (line_of b l.k) (stretch_lines (stretches_from b (l.k + 1)))
    (l.invariant.printed index) (line_first b l.k lt) _ (c.in_err-print_line.ensures.printed index lt) start text h)

pub loop-k-preserved : goal.loop-k-preserved
loop-k-preserved g c =
    let b = bytes_of c.args.index.now in
    let l = c.loop-k in
    let lt = subst (λ (n : ℕ). l.k < n) c.count-k-end.ensures c.loop-k-test.true in
    record {
      printed = λ index. front_more (g.W.Write.contents c.args.output.now) (g.W.Write.contents l.output)
          (g.W.Write.contents c.print_line.new.output) c.args.printer.now l.printer (listing b)
          (stretch_lines (stretches_from b l.k)) (line_of b l.k) (stretch_lines (stretches_from b (l.k + 1)))
          (l.invariant.printed index) (line_first b l.k lt) c.print_line.new.printer
          (c.in_ok-print_line.ensures.printed index lt);
    }

pub returns-clause-printed : goal.returns-clause-printed
returns-clause-printed g c index =
    let b = bytes_of c.args.index.now in
    let l = c.loop-k in
    all_fronts (g.W.Write.contents c.args.output.now) (g.W.Write.contents l.output) c.args.printer.now l.printer
    (listing b) (stretch_lines (stretches_from b l.k)) (l.invariant.printed index) (no_line b l.k
    (subst (λ (n : ℕ). n ≤ l.k) c.count-k-end.ensures c.loop-k-test.false))
