use Rattle.std.proofs.Common.{◌<◌, ◌≤◌, ℕ, List, length, arith, append-nil, sym, subst}
use Rattle.std.proofs.lemmas.Bool.Decides.{nat_tests}
use Rattle.std.proofs.lemmas.Result.{err_from_is_err_and}
use Rattle.dl_print.specs.Output.{HasPrinted}
use Rattle.dl_lines.proofs.LineLemmas.{loses_once, places_len, prints_once, prints_whole}
use Rattle.dl_lines.proofs.printing.print_search.Goals as goal

pub loop-number-init : goal.loop-number-init
loop-number-init g c = record {
  within = omega arith;
  printed = λ start text h. subst (λ (l : List ℕ). HasPrinted start (g.W.Write.contents c.args.output.now) l c.args.printer.now)
      (sym (append-nil text)) h;
}

pub loop-number-preserved : goal.loop-number-preserved
loop-number-preserved g c =
    let s = c.args.search.now in
    let l = c.loop-number in
    let test = c.loop-number-test.true in
    let below : l.number < length s.kept.places.items = grind (arith, test) in
    record {
      within = omega (arith, below);
      printed = prints_once s (g.W.Write.contents c.args.output.now) (g.W.Write.contents l.output)
          (g.W.Write.contents c.print_once.new.output) c.args.printer.now l.printer l.number
          (omega (arith, below, places_len s s.kept.places.items)) l.invariant.printed c.print_once.new.printer
          c.in_ok-print_once.ensures.printed;
    }

pub returns-in_err-print_once-clause-printed : goal.returns-in_err-print_once-clause-printed
returns-in_err-print_once-clause-printed g c start text h =
    let p = err_from_is_err_and c.from_residual.result c.from_residual.ensures.1 in
    let s = c.args.search.now in
    let l = c.loop-number in
    let test = c.loop-number-test.true in
    let below : l.number < length s.kept.places.items = grind (arith, test) in
    rw (p.1, p.2) (loses_once s (g.W.Write.contents c.args.output.now) (g.W.Write.contents l.output)
    (g.W.Write.contents c.print_once.new.output) c.args.printer.now l.printer l.number
    (omega (arith, below, places_len s s.kept.places.items)) l.invariant.printed _
    c.in_err-print_once.ensures.printed start text h)

pub returns-clause-printed : goal.returns-clause-printed
returns-clause-printed g c =
    let s = c.args.search.now in
    let l = c.loop-number in
    let test = c.loop-number-test.false in
    let empty = c.is_empty.ensures in
    let not_empty = c.if-is_empty.false in
    let all : length s.kept.places.items ≤ l.number = grind (arith, test) in
    let some : 0 < length s.kept.places.items = grind (arith, nat_tests, empty, not_empty) in
    prints_whole s (g.W.Write.contents c.args.output.now) (g.W.Write.contents l.output) c.args.printer.now l.printer
    l.number (omega (arith, some, places_len s s.kept.places.items)) (omega (arith, all, places_len s s.kept.places.items))
    l.invariant.printed
