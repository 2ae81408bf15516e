use Rattle.std.proofs.Common.{◌++◌, codes}
use Rattle.std.proofs.lemmas.Result.{err_from_is_err_and}
use Rattle.std.specs.Prelude.{decimal}
use Rattle.dl_path.proofs.PrintLemmas.{loses_front, loses_then}
use Rattle.dl_linting.specs.CountText.{some_text}
use Rattle.dl_linting.proofs.counts.print_some.Goals as goal

pub returns-in_err-put-2-clause-printed : goal.returns-in_err-put-2-clause-printed
unfolding some_text
returns-in_err-put-2-clause-printed g c start text h =
    let e = err_from_is_err_and c.from_residual-in_err-put-2.result c.from_residual-in_err-put-2.ensures.1 in
    rw (e.1, e.2) (loses_then _ _ _ _ _ (codes " ") (c.args.name.now ++ (codes "=" ++ decimal c.args.count)) _
    c.in_ok-put.ensures.printed
    (loses_front _ _ _ c.args.name.now (codes "=" ++ decimal c.args.count) _ c.in_err-put-2.ensures.printed) start text h)
