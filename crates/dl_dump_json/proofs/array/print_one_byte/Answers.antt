use Rattle.std.proofs.lemmas.Result.{err_from_is_err_and}
use Rattle.dl_path.proofs.PrintLemmas.{loses_front, prints_then}
use Rattle.std.specs.Prelude.{decimal}
use Rattle.dl_dump_json.specs.Members.{comma_before}
use Rattle.dl_dump_json.proofs.array.print_one_byte.Goals as goal

pub returns-in_err-print_comma-clause-printed : goal.returns-in_err-print_comma-clause-printed
returns-in_err-print_comma-clause-printed g c start text h =
    let e = err_from_is_err_and c.from_residual.result c.from_residual.ensures.1 in
    rw (e.1, e.2) (loses_front _ _ _ (comma_before c.args.place) (decimal c.args.byte) _ c.in_err-print_comma.ensures.printed start text h)

pub returns-clause-printed : goal.returns-clause-printed
returns-clause-printed g c =
    prints_then _ _ _ _ _ _ (comma_before c.args.place) (decimal c.args.byte) _ c.in_ok-print_comma.ensures.printed
    c.number.ensures.printed
