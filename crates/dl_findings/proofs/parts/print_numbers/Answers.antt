use Rattle.std.proofs.Common.{◌++◌}
use Rattle.std.proofs.lemmas.Result.{err_from_is_err_and}
use Rattle.dl_path.proofs.PrintLemmas.{loses_front, prints_then}
use Rattle.std.specs.Prelude.{decimal}
use Rattle.dl_findings.specs.FindingText.{two_numbers}
use Rattle.dl_findings.proofs.parts.print_numbers.Goals as goal

pub returns-in_err-print_number-clause-printed : goal.returns-in_err-print_number-clause-printed
unfolding two_numbers
returns-in_err-print_number-clause-printed g c start text h =
    let e = err_from_is_err_and c.from_residual.result c.from_residual.ensures.1 in
    rw (e.1, e.2) (loses_front _ _ _ (c.args.name.now ++ decimal c.args.number) (c.args.other.now ++ decimal c.args.second) _ c.in_err-print_number.ensures.printed start text h)

pub returns-clause-printed : goal.returns-clause-printed
unfolding two_numbers
returns-clause-printed g c =
    prints_then _ _ _ _ _ _ (c.args.name.now ++ decimal c.args.number) (c.args.other.now ++ decimal c.args.second) _ c.in_ok-print_number.ensures.printed
    c.print_number-2.ensures.printed
