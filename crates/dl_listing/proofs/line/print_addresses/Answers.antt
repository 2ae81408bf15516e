use Rattle.std.proofs.Common.{◌++◌, ◌^◌, codes}
use Rattle.std.specs.Prelude.{unwrap_or}
use Rattle.std.proofs.lemmas.Result.{err_from_is_err_and}
use Rattle.dl_path.proofs.PrintLemmas.{loses_front, loses_then, more_then, prints_then}
use Rattle.dl_listing.specs.Listing.{address_text}
use Rattle.dl_listing.proofs.line.print_addresses.Goals as goal

pub returns-in_err-address-clause-printed : goal.returns-in_err-address-clause-printed
returns-in_err-address-clause-printed g c start text h =
    let p = err_from_is_err_and c.from_residual.result c.from_residual.ensures.1 in
    let a = address_text c.args.start in
    let e = address_text (unwrap_or c.args.end (2 ^ 64)) in
    let s = codes " " in
    let old = g.W.Write.contents c.args.output.now in
    let new = g.W.Write.contents c.address.new.output in
    let first = c.args.printer.now in
    rw (p.1, p.2) (loses_front old new first (a ++ s ++ e) s _ (loses_front old new first (a ++ s) e _
    (loses_front old new first a s _ c.in_err-address.ensures.printed)) start text h)

pub returns-in_err-put-clause-printed : goal.returns-in_err-put-clause-printed
returns-in_err-put-clause-printed g c start text h =
    let p = err_from_is_err_and c.from_residual-in_err-put.result c.from_residual-in_err-put.ensures.1 in
    let a = address_text c.args.start in
    let e = address_text (unwrap_or c.args.end (2 ^ 64)) in
    let s = codes " " in
    let old = g.W.Write.contents c.args.output.now in
    let mid = g.W.Write.contents c.address.new.output in
    let new = g.W.Write.contents c.put.new.output in
    let first = c.args.printer.now in
    rw (p.1, p.2) (loses_front old new first (a ++ s ++ e) s _ (loses_front old new first (a ++ s) e _
    (loses_then old mid new first c.address.new.self a s _ c.in_ok-address.ensures.printed
    c.in_err-put.ensures.printed)) start text h)

pub returns-in_err-print_end-clause-printed : goal.returns-in_err-print_end-clause-printed
returns-in_err-print_end-clause-printed g c start text h =
    let p = err_from_is_err_and c.from_residual-in_err-print_end.result c.from_residual-in_err-print_end.ensures.1 in
    let a = address_text c.args.start in
    let e = address_text (unwrap_or c.args.end (2 ^ 64)) in
    let s = codes " " in
    let old = g.W.Write.contents c.args.output.now in
    let one = g.W.Write.contents c.address.new.output in
    let two = g.W.Write.contents c.put.new.output in
    let new = g.W.Write.contents c.print_end.new.output in
    let first = c.args.printer.now in
    rw (p.1, p.2) (loses_front old new first (a ++ s ++ e) s _ (loses_then old two new first c.put.new.self (a ++ s) e _
    (more_then old one two first c.address.new.self c.put.new.self a s c.in_ok-address.ensures.printed
    c.in_ok-put.ensures.printed) c.in_err-print_end.ensures.printed) start text h)

pub returns-clause-printed : goal.returns-clause-printed
returns-clause-printed g c =
    let a = address_text c.args.start in
    let e = address_text (unwrap_or c.args.end (2 ^ 64)) in
    let s = codes " " in
    let old = g.W.Write.contents c.args.output.now in
    let one = g.W.Write.contents c.address.new.output in
    let two = g.W.Write.contents c.put.new.output in
    let three = g.W.Write.contents c.print_end.new.output in
    let new = g.W.Write.contents c.put-2.new.output in
    let first = c.args.printer.now in
    prints_then old three new first c.print_end.new.printer c.put-2.new.self (a ++ s ++ e) s c.put-2.result
    (more_then old two three first c.put.new.self c.print_end.new.printer (a ++ s) e
    (more_then old one two first c.address.new.self c.put.new.self a s c.in_ok-address.ensures.printed
    c.in_ok-put.ensures.printed) c.in_ok-print_end.ensures.printed) c.put-2.ensures.printed
