use Rattle.std.proofs.Common.{◌++◌, ◌^◌, [], ◌∷◌}
use Rattle.std.specs.Prelude.{unwrap_or}
use Rattle.std.specs.Option.{option_map}
use Rattle.std.proofs.lemmas.Result.{err_from_is_err_and}
use Rattle.dl_index.specs.Shown.{told}
use Rattle.dl_path.proofs.PrintLemmas.{loses_front, loses_then, more_then, prints_then}
use Rattle.dl_listing.specs.Listing.{addresses_text, location_text}
use Rattle.dl_listing.proofs.line.print_stretch.Goals as goal

pub returns-in_err-print_addresses-clause-printed : goal.returns-in_err-print_addresses-clause-printed
returns-in_err-print_addresses-clause-printed g c start text h =
    let p = err_from_is_err_and c.from_residual.result c.from_residual.ensures.1 in
    let a = addresses_text c.args.stretch.start (unwrap_or c.args.stretch.end (2 ^ 64)) in
    let l = location_text (option_map told c.args.stretch.found) in
    let old = g.W.Write.contents c.args.output.now in
    let new = g.W.Write.contents c.print_addresses.new.output in
    let first = c.args.printer.now in
    rw (p.1, p.2) (loses_front old new first (a ++ l) (10 ∷ []) _ (loses_front old new first a l _
    c.in_err-print_addresses.ensures.printed) start text h)

pub returns-in_err-print_location-clause-printed : goal.returns-in_err-print_location-clause-printed
returns-in_err-print_location-clause-printed g c start text h =
    let p = err_from_is_err_and c.from_residual-in_err-print_location.result
    c.from_residual-in_err-print_location.ensures.1 in
    let a = addresses_text c.args.stretch.start (unwrap_or c.args.stretch.end (2 ^ 64)) in
    let l = location_text (option_map told c.args.stretch.found) in
    let old = g.W.Write.contents c.args.output.now in
    let mid = g.W.Write.contents c.print_addresses.new.output in
    let new = g.W.Write.contents c.print_location.new.output in
    let first = c.args.printer.now in
    rw (p.1, p.2) (loses_front old new first (a ++ l) (10 ∷ []) _ (loses_then old mid new first
    c.print_addresses.new.printer a l _ c.in_ok-print_addresses.ensures.printed c.in_err-print_location.ensures.printed) start text h)

pub returns-clause-printed : goal.returns-clause-printed
returns-clause-printed g c =
    let a = addresses_text c.args.stretch.start (unwrap_or c.args.stretch.end (2 ^ 64)) in
    let l = location_text (option_map told c.args.stretch.found) in
    let old = g.W.Write.contents c.args.output.now in
    let one = g.W.Write.contents c.print_addresses.new.output in
    let two = g.W.Write.contents c.print_location.new.output in
    let new = g.W.Write.contents c.put.new.output in
    let first = c.args.printer.now in
    prints_then old two new first c.print_location.new.printer c.put.new.self (a ++ l) (10 ∷ []) c.put.result
    (more_then old one two first c.print_addresses.new.printer c.print_location.new.printer a l
    c.in_ok-print_addresses.ensures.printed c.in_ok-print_location.ensures.printed) c.put.ensures.printed
