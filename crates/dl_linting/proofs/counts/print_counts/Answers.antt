use Rattle.std.proofs.Common.{◌+◌, ap₂, drop}
use Rattle.std.proofs.lemmas.Result.{err_from_is_err_and}
use Rattle.dl_path.proofs.PrintLemmas.{all_fronts, front_lost, front_more, nothing_yet, prints_same}
use Rattle.dl_linting.specs.CountText.{count_text, counts_text}
use Rattle.dl_linting.proofs.CountLemmas.{next_count, no_count}
use Rattle.dl_linting.proofs.counts.print_counts.Goals as goal

pub loop-rule-init : goal.loop-rule-init
loop-rule-init g c = record {
  printed = nothing_yet (g.W.Write.contents c.args.output.now) c.args.printer.now (counts_text c.args.counts.now c.args.rules.now);
}

pub returns-in_err-print_count-clause-printed : goal.returns-in_err-print_count-clause-printed
returns-in_err-print_count-clause-printed g c start text h =
    let p = err_from_is_err_and c.from_residual.result c.from_residual.ensures.1 in
    let l = c.loop-rule in
    rw (p.1, p.2) (front_lost (g.W.Write.contents c.args.output.now) (g.W.Write.contents l.output)
    (g.W.Write.contents c.print_count.new.output) c.args.printer.now l.printer (counts_text c.args.counts.now c.args.rules.now)
    (counts_text c.args.counts.now (drop l.rule-index c.args.rules.now)) _
    (counts_text c.args.counts.now (drop (l.rule-index + 1) c.args.rules.now)) l.invariant.printed
    (next_count c.args.counts.now c.args.rules.now l.rule-index _ _ _ c.loop-rule-test.true c.name.ensures c.of.ensures) _
    c.in_err-print_count.ensures.printed start text h)

pub loop-rule-preserved : goal.loop-rule-preserved
loop-rule-preserved g c =
    let l = c.loop-rule in
    record {
      printed = front_more (g.W.Write.contents c.args.output.now) (g.W.Write.contents l.output)
          (g.W.Write.contents c.print_count.new.output) c.args.printer.now l.printer
          (counts_text c.args.counts.now c.args.rules.now)
          (counts_text c.args.counts.now (drop l.rule-index c.args.rules.now)) _
          (counts_text c.args.counts.now (drop (l.rule-index + 1) c.args.rules.now)) l.invariant.printed
          (next_count c.args.counts.now c.args.rules.now l.rule-index _ _ _ c.loop-rule-test.true c.name.ensures c.of.ensures)
          c.print_count.new.printer c.in_ok-print_count.ensures.printed;
    }

pub returns-clause-printed : goal.returns-clause-printed
returns-clause-printed g c =
    let l = c.loop-rule in
    all_fronts (g.W.Write.contents c.args.output.now) (g.W.Write.contents l.output) c.args.printer.now l.printer
    (counts_text c.args.counts.now c.args.rules.now) (counts_text c.args.counts.now (drop l.rule-index c.args.rules.now))
    l.invariant.printed (no_count c.args.counts.now c.args.rules.now l.rule-index c.loop-rule-test.false)
