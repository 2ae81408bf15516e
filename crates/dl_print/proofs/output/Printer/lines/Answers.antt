use Rattle.std.proofs.Common.{w8, codes, refl, ◌++◌}
use Rattle.std.proofs.lemmas.Int.{to_z-of_z}
use Rattle.std.proofs.lemmas.Result.{err_from_is_err_and}
use Rattle.dl_print.specs.HeaderFields.{field_line, signed_line, lines_text}
use Rattle.dl_print.proofs.Outs.{Prints-both, PrintsMore-then, TellsOut-front, TellsOut-part}
use Rattle.dl_print.proofs.output.Printer.lines.Goals as goal

pub returns-in_err-byte_field-clause-printed : goal.returns-in_err-byte_field-clause-printed
unfolding lines_text
returns-in_err-byte_field-clause-printed g c = λ start text h.
    let p = err_from_is_err_and c.from_residual.result c.from_residual.ensures.1 in
    let params = c.args.header.now.params in
    let is_stmt = field_line (codes "default_is_stmt") params.default_is_stmt in
    let base = signed_line (codes "line_base") params.line_base in
    let range = field_line (codes "line_range") params.line_range in
    let tells = rw c.params-params.ensures.value at (c.in_err-byte_field.ensures.printed start text h) in
    rw (p.1, p.2) (TellsOut-front start _ text (is_stmt ++ base) range _
    (TellsOut-front start _ text is_stmt base _ tells))

pub returns-in_err-signed_field-clause-printed : goal.returns-in_err-signed_field-clause-printed
unfolding lines_text
returns-in_err-signed_field-clause-printed g c = λ start text h.
    let p = err_from_is_err_and c.from_residual-in_err-signed_field.result
    c.from_residual-in_err-signed_field.ensures.1 in
    let params = c.args.header.now.params in
    let same = to_z-of_z w8 params.line_base c.params-params.ensures.sound.line_base in
    let is_stmt = field_line (codes "default_is_stmt") params.default_is_stmt in
    let base = signed_line (codes "line_base") params.line_base in
    let range = field_line (codes "line_range") params.line_range in
    let one = rw c.params-params.ensures.value at (c.in_ok-byte_field.ensures.printed start text h) in
    let tells = rw (c.params-params.ensures.value, same) at (c.in_err-signed_field.ensures.printed start _ one) in
    rw (p.1, p.2) (TellsOut-part start _ text is_stmt base range (is_stmt ++ base ++ range) _ refl tells)

pub returns-clause-printed : goal.returns-clause-printed
unfolding lines_text
returns-clause-printed g c =
    let params = c.args.header.now.params in
    let same = to_z-of_z w8 params.line_base c.params-params.ensures.sound.line_base in
    let is_stmt = field_line (codes "default_is_stmt") params.default_is_stmt in
    let base = signed_line (codes "line_base") params.line_base in
    let range = field_line (codes "line_range") params.line_range in
    let one = rw c.params-params.ensures.value at c.in_ok-byte_field.ensures.printed in
    let two = rw (c.params-params.ensures.value, same) at c.in_ok-signed_field.ensures.printed in
    let three = rw c.params-params.ensures.value at c.byte_field-2.ensures.printed in
    let both = PrintsMore-then _ _ _ _ _ _ is_stmt base (is_stmt ++ base) refl one two in
    Prints-both _ _ _ _ _ _ _ (is_stmt ++ base) range both three
