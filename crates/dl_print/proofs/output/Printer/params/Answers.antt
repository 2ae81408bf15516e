use Rattle.std.proofs.Common.{◌++◌, refl}
use Rattle.std.proofs.lemmas.Result.{err_from_is_err_and}
use Rattle.dl_print.specs.HeaderFields.{instructions_text, lines_text, opcodes_text, params_text}
use Rattle.dl_print.proofs.Outs.{Prints-both, PrintsMore-then, TellsOut-front, TellsOut-part}
use Rattle.dl_print.proofs.output.Printer.params.Goals as goal

pub returns-in_err-instructions-clause-printed : goal.returns-in_err-instructions-clause-printed
unfolding params_text
returns-in_err-instructions-clause-printed g c = λ start text h.
    let p = err_from_is_err_and c.from_residual.result c.from_residual.ensures.1 in
    let params = c.args.header.now.params in
    let instructions = instructions_text params in
    let lines = lines_text params in
    let opcodes = opcodes_text params in
    let tells = rw c.params.ensures.value at (c.in_err-instructions.ensures.printed start text h) in
    rw (p.1, p.2) (TellsOut-front start _ text (instructions ++ lines) opcodes _
    (TellsOut-front start _ text instructions lines _ tells))

pub returns-in_err-lines-clause-printed : goal.returns-in_err-lines-clause-printed
unfolding params_text
returns-in_err-lines-clause-printed g c = λ start text h.
    let p = err_from_is_err_and c.from_residual-in_err-lines.result c.from_residual-in_err-lines.ensures.1 in
    let params = c.args.header.now.params in
    let instructions = instructions_text params in
    let lines = lines_text params in
    let opcodes = opcodes_text params in
    let one = rw c.params.ensures.value at (c.in_ok-instructions.ensures.printed start text h) in
    let tells = c.in_err-lines.ensures.printed start _ one in
    rw (p.1, p.2) (TellsOut-part start _ text instructions lines opcodes (instructions ++ lines ++ opcodes) _ refl tells)

pub returns-clause-printed : goal.returns-clause-printed
unfolding params_text
returns-clause-printed g c =
    let params = c.args.header.now.params in
    let instructions = instructions_text params in
    let lines = lines_text params in
    let opcodes = opcodes_text params in
    let one = rw c.params.ensures.value at c.in_ok-instructions.ensures.printed in
    let two = c.in_ok-lines.ensures.printed in
    let both = PrintsMore-then _ _ _ _ _ _ instructions lines (instructions ++ lines) refl one two in
    let three = rw c.params-2.ensures.value at c.opcodes.ensures.printed in
    Prints-both _ _ _ _ _ _ _ (instructions ++ lines) opcodes both three
