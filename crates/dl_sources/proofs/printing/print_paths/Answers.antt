use Rattle.std.proofs.Common.{ap}
use Rattle.std.specs.Map.Iter.{deref_pair}
use Rattle.std.proofs.lemmas.Map.Iter.{rest_more}
use Rattle.std.proofs.lemmas.Result.{err_from_is_err_and}
use Rattle.dl_path.proofs.PrintLemmas.{front_lost, front_more}
use Rattle.dl_sources.specs.Report.{path_lines}
use Rattle.dl_sources.specs.Reporting.{entries_text}
use Rattle.dl_sources.specs.SourceFiles.{totals_seen}
use Rattle.dl_sources.proofs.printing.print_paths.Goals as goal

pub loop-path-preserved : goal.loop-path-preserved
loop-path-preserved g c =
    let q = c.args.question.now in
    let l = c.loop-path in
    front_more (g.W.Write.contents c.args.output.now) (g.W.Write.contents l.output)
    (g.W.Write.contents c.print_totals.new.output) c.args.printer.now l.printer (entries_text q c.args.table.now.paths.entries)
    (entries_text q l.path-iterator) (path_lines q c.in-Some.path.now.items (totals_seen c.in-Some.totals.now))
    (entries_text q c.next.new.self) l.invariant
    (ap (entries_text q) (rest_more deref_pair l.path-iterator c.next.new.self c.next.result (c.in-Some.path, c.in-Some.totals)
    c.in-Some.is c.next.ensures.steps))
    c.print_totals.new.printer (rw c.as_slice.ensures.value at c.in_ok-print_totals.ensures.printed)

pub returns-in_err-print_totals-clause-printed : goal.returns-in_err-print_totals-clause-printed
returns-in_err-print_totals-clause-printed g c start text_before h =
    let p = err_from_is_err_and c.from_residual.result c.from_residual.ensures.1 in
    let q = c.args.question.now in
    let l = c.loop-path in
    rw (p.1, p.2) (front_lost (g.W.Write.contents c.args.output.now) (g.W.Write.contents l.output)
    (g.W.Write.contents c.print_totals.new.output) c.args.printer.now l.printer (entries_text q c.args.table.now.paths.entries)
    (entries_text q l.path-iterator) (path_lines q c.in-Some.path.now.items (totals_seen c.in-Some.totals.now))
    (entries_text q c.next.new.self) l.invariant
    (ap (entries_text q) (rest_more deref_pair l.path-iterator c.next.new.self c.next.result (c.in-Some.path, c.in-Some.totals)
    c.in-Some.is c.next.ensures.steps))
    _ (rw c.as_slice.ensures.value at c.in_err-print_totals.ensures.printed) start text_before h)
