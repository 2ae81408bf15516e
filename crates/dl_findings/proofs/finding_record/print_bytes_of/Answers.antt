use Rattle.std.proofs.Common.{◌+◌, drop}
use Rattle.std.proofs.lemmas.Result.{err_from_is_err_and}
use Rattle.dl_path.proofs.PrintLemmas.{all_fronts, front_lost, front_more, nothing_yet}
use Rattle.dl_findings.specs.FindingRecord.{eight_bytes_each}
use Rattle.dl_findings.proofs.RecordLemmas.{next_bytes, no_bytes}
use Rattle.dl_findings.proofs.finding_record.print_bytes_of.Goals as goal

pub loop-number-init : goal.loop-number-init
loop-number-init g c = record {
  printed = nothing_yet (g.W.Write.contents c.args.output.now) c.args.printer.now (eight_bytes_each c.args.numbers.now);
}

pub returns-in_err-put-clause-printed : goal.returns-in_err-put-clause-printed
returns-in_err-put-clause-printed g c start text h =
    let p = err_from_is_err_and c.from_residual.result c.from_residual.ensures.1 in
    let l = c.loop-number in
    rw (p.1, p.2) (front_lost (g.W.Write.contents c.args.output.now) (g.W.Write.contents l.output)
    (g.W.Write.contents c.put.new.output) c.args.printer.now l.printer (eight_bytes_each c.args.numbers.now)
    (eight_bytes_each (drop l.number-index c.args.numbers.now)) _
    (eight_bytes_each (drop (l.number-index + 1) c.args.numbers.now)) l.invariant.printed
    (next_bytes c.args.numbers.now l.number-index _ _ c.loop-number-test.true c.to_le_bytes.ensures) _
    c.in_err-put.ensures.printed start text h)

pub loop-number-preserved : goal.loop-number-preserved
loop-number-preserved g c =
    let l = c.loop-number in
    record {
      printed = front_more (g.W.Write.contents c.args.output.now) (g.W.Write.contents l.output)
          (g.W.Write.contents c.put.new.output) c.args.printer.now l.printer (eight_bytes_each c.args.numbers.now)
          (eight_bytes_each (drop l.number-index c.args.numbers.now)) _
          (eight_bytes_each (drop (l.number-index + 1) c.args.numbers.now)) l.invariant.printed
          (next_bytes c.args.numbers.now l.number-index _ _ c.loop-number-test.true c.to_le_bytes.ensures)
          c.put.new.self c.in_ok-put.ensures.printed;
    }

pub returns-clause-printed : goal.returns-clause-printed
returns-clause-printed g c =
    let l = c.loop-number in
    all_fronts (g.W.Write.contents c.args.output.now) (g.W.Write.contents l.output) c.args.printer.now l.printer
    (eight_bytes_each c.args.numbers.now) (eight_bytes_each (drop l.number-index c.args.numbers.now))
    l.invariant.printed (no_bytes c.args.numbers.now l.number-index c.loop-number-test.false)
