use Rattle.std.proofs.lemmas.Result.{err_from_is_err_and}
use Rattle.dl_path.proofs.PrintLemmas.{loses_front}
use Rattle.dl_print.specs.ValueText.{strings_of}
use Rattle.dl_dump.specs.DetailText.{DetailStyle, shown_after}
use Rattle.dl_dump.specs.RangeText.{unit_lines, visits_held}
use Rattle.dl_dump.proofs.held_sequence.print_sequence.Goals as goal

pub returns-in_err-print_unit_lines-clause-printed : goal.returns-in_err-print_unit_lines-clause-printed
returns-in_err-print_unit_lines-clause-printed g c start text h =
    let e = err_from_is_err_and c.from_residual.result c.from_residual.ensures.1 in
    let style : DetailStyle = record { details = c.args.details.now; strings = strings_of c.args.strings.now } in
    rw (e.1, e.2) (loses_front _ _ _ (unit_lines style c.args.at c.args.header.now c.args.unit)
    (shown_after style c.args.at (visits_held c.args.header.now c.args.items.now)) _ c.in_err-print_unit_lines.ensures.printed
    start text h)
