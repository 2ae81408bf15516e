use Rattle.std.proofs.Common.{◌++◌, codes}
use Rattle.std.proofs.lemmas.Result.{err_from_is_err_and}
use Rattle.dl_path.proofs.PrintLemmas.{loses_front, loses_then, prints_then}
use Rattle.dl_print.specs.ValueText.{content_name}
use Rattle.dl_dump_json.specs.Members.{name_start}
use Rattle.dl_dump_json.proofs.entry.print_content_start.Goals as goal

pub returns-in_err-put-clause-printed : goal.returns-in_err-put-clause-printed
unfolding name_start
returns-in_err-put-clause-printed g c start text h =
    let e = err_from_is_err_and c.from_residual.result c.from_residual.ensures.1 in
    rw (e.1, e.2) (loses_front _ _ _ (codes ",\"") (content_name c.args.content ++ (codes "\":")) _ c.in_err-put.ensures.printed start text h)

pub returns-in_err-print_content_name-clause-printed : goal.returns-in_err-print_content_name-clause-printed
unfolding name_start
returns-in_err-print_content_name-clause-printed g c start text h =
    let e = err_from_is_err_and c.from_residual-in_err-print_content_name.result c.from_residual-in_err-print_content_name.ensures.1 in
    rw (e.1, e.2) (loses_then _ _ _ _ _ (codes ",\"") (content_name c.args.content ++ (codes "\":")) _ c.in_ok-put.ensures.printed
    (loses_front _ _ _ (content_name c.args.content) (codes "\":") _ c.in_err-print_content_name.ensures.printed) start text h)

pub returns-clause-printed : goal.returns-clause-printed
unfolding name_start
returns-clause-printed g c =
    prints_then _ _ _ _ _ _ (codes ",\"") (content_name c.args.content ++ (codes "\":")) _ c.in_ok-put.ensures.printed
    (prints_then _ _ _ _ _ _ (content_name c.args.content) (codes "\":") _ c.in_ok-print_content_name.ensures.printed
    c.put-2.ensures.printed)
