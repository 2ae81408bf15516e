use Rattle.std.proofs.KnownBytes.{Appends-nil}
use Rattle.dl_index.specs.Shown.{bytes_of}
use Rattle.dl_print.proofs.Outs.{HasPrinted-nothing, flushed}
use Rattle.dl_listing.specs.Listing.{listing}
use Rattle.dl_listing.proofs.listing.list.Goals as goal

pub returns-in-Ok-clause-printed : goal.returns-in-Ok-clause-printed
returns-in-Ok-clause-printed g c index =
    let old = g.W.Write.contents c.args.output.now in
    let text = listing (bytes_of c.args.index.now) in
    let nothing = HasPrinted-nothing old old c.new-printer.result (Appends-nil old) c.new-printer.ensures.nothing_pending
    c.new-printer.ensures.nothing_out in
    flushed old (g.W.Write.contents c.flush.new.output) text c.flush.new.self c.flush.result
    (c.flush.ensures.printed old text (c.in-Ok.ensures.printed index old _ nothing)) c.flush.ensures.empty

pub returns-in-Err-clause-printed : goal.returns-in-Err-clause-printed
returns-in-Err-clause-printed g c index =
    let old = g.W.Write.contents c.args.output.now in
    let nothing = HasPrinted-nothing old old c.new-printer.result (Appends-nil old) c.new-printer.ensures.nothing_pending
    c.new-printer.ensures.nothing_out in
    c.in-Err.ensures.printed index old _ nothing
