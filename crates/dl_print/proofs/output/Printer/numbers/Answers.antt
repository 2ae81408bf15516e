use Rattle.std.proofs.Common.{◌+◌, drop, get_or, take}
use Rattle.std.specs.List.{flat_map}
use Rattle.std.proofs.lemmas.Result.{err_from_is_err_and}
use Rattle.dl_table.proofs.WritingLemmas.{parts_split}
use Rattle.dl_print.specs.HeaderFields.{number_text}
use Rattle.dl_print.proofs.Outs.{TellsOut-part}
use Rattle.dl_print.proofs.output.Printer.numbers.Goals as goal

pub returns-in_err-number-clause-printed : goal.returns-in_err-number-clause-printed
returns-in_err-number-clause-printed g c = λ start text h.
    let p = err_from_is_err_and c.from_residual.result c.from_residual.ensures.1 in
    let numbers = c.args.numbers.now in
    let i = c.loop-number.number-index in
    let tells =
    rw c.from.ensures at (c.in_err-number.ensures.printed start _ (c.loop-number.invariant start text h)) in
    rw (p.1, p.2) (TellsOut-part start _ text (flat_map number_text (take i numbers)) (number_text (get_or numbers i 0))
    (flat_map number_text (drop (i + 1) numbers)) (flat_map number_text numbers) _
    (parts_split number_text numbers i 0 c.loop-number-test.true) tells)
