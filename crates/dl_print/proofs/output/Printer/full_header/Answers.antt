use Rattle.std.proofs.Common.{◌++◌, refl}
use Rattle.std.proofs.lemmas.Result.{err_from_is_err_and}
use Rattle.dl_print.specs.HeaderFields.{fields_text}
use Rattle.dl_print.specs.HeaderText.{tables_text}
use Rattle.dl_print.specs.Text.{unit_line}
use Rattle.dl_print.specs.ValueText.{strings_of}
use Rattle.dl_print.proofs.Outs.{Prints-both, PrintsMore-then, TellsOut-front, TellsOut-part}
use Rattle.dl_print.proofs.output.Printer.full_header.Goals as goal

pub returns-in_err-unit-clause-printed : goal.returns-in_err-unit-clause-printed
returns-in_err-unit-clause-printed g c = λ start text h.
    let p = err_from_is_err_and c.from_residual.result c.from_residual.ensures.1 in
    let header = c.args.header.now in
    let unit = unit_line c.args.offset header.params in
    let fields = fields_text c.args.lengths.now header in
    let tables = tables_text (strings_of c.args.strings.now) header in
    let tells = rw c.params.ensures.value at (c.in_err-unit.ensures.printed start text h) in
    rw (p.1, p.2) (TellsOut-front start _ text (unit ++ fields) tables _
    (TellsOut-front start _ text unit fields _ tells))

pub returns-in_err-fields-clause-printed : goal.returns-in_err-fields-clause-printed
returns-in_err-fields-clause-printed g c = λ start text h.
    let p = err_from_is_err_and c.from_residual-in_err-fields.result c.from_residual-in_err-fields.ensures.1 in
    let header = c.args.header.now in
    let unit = unit_line c.args.offset header.params in
    let fields = fields_text c.args.lengths.now header in
    let tables = tables_text (strings_of c.args.strings.now) header in
    let one = rw c.params.ensures.value at c.in_ok-unit.ensures.printed in
    let tells = c.in_err-fields.ensures.printed start _ (one start text h) in
    rw (p.1, p.2) (TellsOut-part start _ text unit fields tables (unit ++ fields ++ tables) _ refl tells)

pub returns-clause-printed : goal.returns-clause-printed
returns-clause-printed g c =
    let header = c.args.header.now in
    let unit = unit_line c.args.offset header.params in
    let fields = fields_text c.args.lengths.now header in
    let tables = tables_text (strings_of c.args.strings.now) header in
    let one = rw c.params.ensures.value at c.in_ok-unit.ensures.printed in
    let both = PrintsMore-then _ _ _ _ _ _ unit fields (unit ++ fields) refl one c.in_ok-fields.ensures.printed in
    Prints-both _ _ _ _ _ _ _ (unit ++ fields) tables both c.tables.ensures.printed
