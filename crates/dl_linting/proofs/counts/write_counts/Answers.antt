use Rattle.std.proofs.KnownBytes.{Appends-nil}
use Rattle.dl_print.proofs.Outs.{HasPrinted-nothing, flushed}
use Rattle.dl_linting.specs.CountText.{counts_line}
use Rattle.dl_linting.proofs.counts.write_counts.Goals as goal

pub returns-in-Ok-clause-written : goal.returns-in-Ok-clause-written
returns-in-Ok-clause-written g c =
    let old = g.W.Write.contents c.args.output.now in
    let text = counts_line c.args.counts.now in
    let nothing = HasPrinted-nothing old old c.new-printer.result (Appends-nil old) c.new-printer.ensures.nothing_pending
    c.new-printer.ensures.nothing_out in
    flushed old (g.W.Write.contents c.flush.new.output) text c.flush.new.self c.flush.result
    (c.flush.ensures.printed old text (c.in-Ok.ensures.printed old _ nothing)) c.flush.ensures.empty

pub returns-in-Err-clause-written : goal.returns-in-Err-clause-written
returns-in-Err-clause-written g c =
    let old = g.W.Write.contents c.args.output.now in
    let nothing = HasPrinted-nothing old old c.new-printer.result (Appends-nil old) c.new-printer.ensures.nothing_pending
    c.new-printer.ensures.nothing_out in
    c.in-Err.ensures.printed old _ nothing
