use Rattle.std.proofs.Common.{◌++◌}
use Rattle.std.proofs.lemmas.Result.{err_from_is_err_and}
use Rattle.dl_path.proofs.PrintLemmas.{loses_front, loses_then, prints_then}
use Rattle.dl_dump_json.specs.Fields.{instructions_members, lines_members, opcodes_members, params_members}
use Rattle.dl_dump_json.proofs.fields.print_params.Goals as goal

pub returns-in_err-print_instructions-clause-printed : goal.returns-in_err-print_instructions-clause-printed
unfolding params_members
returns-in_err-print_instructions-clause-printed g c start text h =
    let e = err_from_is_err_and c.from_residual.result c.from_residual.ensures.1 in
    rw (e.1, e.2) (loses_front _ _ _ (instructions_members c.args.header.now.params) (lines_members c.args.header.now.params ++ (opcodes_members c.args.header.now.params)) _ (rw c.params-params.ensures.value at c.in_err-print_instructions.ensures.printed) start text h)

pub returns-in_err-print_lines-clause-printed : goal.returns-in_err-print_lines-clause-printed
unfolding params_members
returns-in_err-print_lines-clause-printed g c start text h =
    let e = err_from_is_err_and c.from_residual-in_err-print_lines.result c.from_residual-in_err-print_lines.ensures.1 in
    rw (e.1, e.2) (loses_then _ _ _ _ _ (instructions_members c.args.header.now.params) (lines_members c.args.header.now.params ++ (opcodes_members c.args.header.now.params)) _ (rw c.params-params.ensures.value at c.in_ok-print_instructions.ensures.printed)
    (loses_front _ _ _ (lines_members c.args.header.now.params) (opcodes_members c.args.header.now.params) _ c.in_err-print_lines.ensures.printed) start text h)

pub returns-clause-printed : goal.returns-clause-printed
unfolding params_members
returns-clause-printed g c =
    prints_then _ _ _ _ _ _ (instructions_members c.args.header.now.params) (lines_members c.args.header.now.params ++ (opcodes_members c.args.header.now.params)) _ (rw c.params-params.ensures.value at c.in_ok-print_instructions.ensures.printed)
    (prints_then _ _ _ _ _ _ (lines_members c.args.header.now.params) (opcodes_members c.args.header.now.params) _ c.in_ok-print_lines.ensures.printed
    (rw c.params-params.ensures.value at c.print_opcodes.ensures.printed))
