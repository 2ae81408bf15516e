use Rattle.std.proofs.Common.{◌∙◌, ap, false, Some}
use Rattle.std.specs.Option.{option_copied}
use Rattle.dl_path.proofs.PrintLemmas.{prints_same}
use Rattle.dl_addr.specs.Locations.{location_line, location_seen}
use Rattle.dl_addr.specs.Printing.{seen_line}
use Rattle.dl_addr.proofs.LocationLemmas.{kept_is, one_text, printed_at, told_line}
use Rattle.dl_addr.proofs.location.print_told.Goals as goal

pub returns-clause-printed : goal.returns-clause-printed
returns-clause-printed g c =
    let style = c.args.style in
    let l = c.args.location in
    let old = g.W.Write.contents c.args.output.now in
    let new = g.W.Write.contents c.print_line.new.output in
    let path = option_copied c.printed_path-path.result in
    prints_same old new c.args.printer.now c.print_line.new.printer _ (location_line style c.args.asked (Some (location_seen l)))
    c.print_line.result
    (ap (λ p. seen_line style c.args.asked (Some (printed_at l p)))
    (kept_is _ ∙ one_text (record { offset = l.unit; has_directory_0 = false }) path _ c.name_number.result (c.new.ensures ∙ c.bytes_or_none.ensures) c.name_number.ensures)
    ∙ told_line style c.args.asked l path c.printed_path-path.ensures) c.print_line.ensures.printed
