use Rattle.std.proofs.Common.{map, ap, Some, List, ℕ}
use Rattle.std.specs.List.{flat_map}
use Rattle.std.specs.Map.Iter.{deref}
use Rattle.std.proofs.lemmas.Map.Iter.{rest_more}
use Rattle.std.proofs.lemmas.Result.{err_from_is_err_and}
use Rattle.dl_path.proofs.PrintLemmas.{front_lost, front_more}
use Rattle.dl_sources.specs.Report.{one_line}
use Rattle.dl_sources.proofs.printing.print_sums.Goals as goal

pub loop-sum-preserved : goal.loop-sum-preserved
loop-sum-preserved g c =
    let line = one_line c.args.question.now c.args.path.now c.args.totals.now.counts in
    let text : List (List ℕ) → List ℕ = λ l. flat_map line (map (λ w. Some w) l) in
    let l = c.loop-sum in
    front_more (g.W.Write.contents c.args.output.now) (g.W.Write.contents l.output)
    (g.W.Write.contents c.print_one.new.output) c.args.printer.now l.printer (text c.args.totals.now.sums.keys)
    (text l.sum-iterator) (line (Some c.in-Some.sum.now)) (text c.next.new.self) l.invariant
    (ap text (rest_more deref l.sum-iterator c.next.new.self c.next.result c.in-Some.sum c.in-Some.is c.next.ensures.steps))
    c.print_one.new.printer c.in_ok-print_one.ensures.printed

pub returns-in_err-print_one-clause-printed : goal.returns-in_err-print_one-clause-printed
returns-in_err-print_one-clause-printed g c start text_before h =
    let p = err_from_is_err_and c.from_residual.result c.from_residual.ensures.1 in
    let line = one_line c.args.question.now c.args.path.now c.args.totals.now.counts in
    let text : List (List ℕ) → List ℕ = λ l. flat_map line (map (λ w. Some w) l) in
    let l = c.loop-sum in
    rw (p.1, p.2) (front_lost (g.W.Write.contents c.args.output.now) (g.W.Write.contents l.output)
    (g.W.Write.contents c.print_one.new.output) c.args.printer.now l.printer (text c.args.totals.now.sums.keys)
    (text l.sum-iterator) (line (Some c.in-Some.sum.now)) (text c.next.new.self) l.invariant
    (ap text (rest_more deref l.sum-iterator c.next.new.self c.next.result c.in-Some.sum c.in-Some.is c.next.ensures.steps))
    _ c.in_err-print_one.ensures.printed start text_before h)
