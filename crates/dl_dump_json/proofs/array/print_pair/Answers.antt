use Rattle.std.proofs.Common.{◌++◌, codes}
use Rattle.std.proofs.lemmas.Result.{err_from_is_err_and}
use Rattle.dl_path.proofs.PrintLemmas.{loses_front, loses_then, prints_then}
use Rattle.dl_print.specs.HeaderFields.{form_name}
use Rattle.dl_print.specs.ValueText.{content_name}
use Rattle.dl_dump_json.specs.Fields.{pair_object}
use Rattle.dl_dump_json.proofs.array.print_pair.Goals as goal

pub returns-in_err-put-clause-printed : goal.returns-in_err-put-clause-printed
unfolding pair_object
returns-in_err-put-clause-printed g c start text h =
    let e = err_from_is_err_and c.from_residual.result c.from_residual.ensures.1 in
    rw (e.1, e.2) (loses_front _ _ _ (codes "{\"content\":\"") (content_name c.args.pair.content ++ (codes "\",\"form\":\"" ++ (form_name c.args.pair.form ++ (codes "\"}")))) _ c.in_err-put.ensures.printed start text h)

pub returns-in_err-print_content_name-clause-printed : goal.returns-in_err-print_content_name-clause-printed
unfolding pair_object
returns-in_err-print_content_name-clause-printed g c start text h =
    let e = err_from_is_err_and c.from_residual-in_err-print_content_name.result c.from_residual-in_err-print_content_name.ensures.1 in
    rw (e.1, e.2) (loses_then _ _ _ _ _ (codes "{\"content\":\"") (content_name c.args.pair.content ++ (codes "\",\"form\":\"" ++ (form_name c.args.pair.form ++ (codes "\"}")))) _ c.in_ok-put.ensures.printed
    (loses_front _ _ _ (content_name c.args.pair.content) (codes "\",\"form\":\"" ++ (form_name c.args.pair.form ++ (codes "\"}"))) _ c.in_err-print_content_name.ensures.printed) start text h)

pub returns-in_err-put-2-clause-printed : goal.returns-in_err-put-2-clause-printed
unfolding pair_object
returns-in_err-put-2-clause-printed g c start text h =
    let e = err_from_is_err_and c.from_residual-in_err-put-2.result c.from_residual-in_err-put-2.ensures.1 in
    rw (e.1, e.2) (loses_then _ _ _ _ _ (codes "{\"content\":\"") (content_name c.args.pair.content ++ (codes "\",\"form\":\"" ++ (form_name c.args.pair.form ++ (codes "\"}")))) _ c.in_ok-put.ensures.printed
    (loses_then _ _ _ _ _ (content_name c.args.pair.content) (codes "\",\"form\":\"" ++ (form_name c.args.pair.form ++ (codes "\"}"))) _ c.in_ok-print_content_name.ensures.printed
    (loses_front _ _ _ (codes "\",\"form\":\"") (form_name c.args.pair.form ++ (codes "\"}")) _ c.in_err-put-2.ensures.printed)) start text h)

pub returns-in_err-put-3-clause-printed : goal.returns-in_err-put-3-clause-printed
unfolding pair_object
returns-in_err-put-3-clause-printed g c start text h =
    let e = err_from_is_err_and c.from_residual-in_err-put-3.result c.from_residual-in_err-put-3.ensures.1 in
    rw (e.1, e.2) (loses_then _ _ _ _ _ (codes "{\"content\":\"") (content_name c.args.pair.content ++ (codes "\",\"form\":\"" ++ (form_name c.args.pair.form ++ (codes "\"}")))) _ c.in_ok-put.ensures.printed
    (loses_then _ _ _ _ _ (content_name c.args.pair.content) (codes "\",\"form\":\"" ++ (form_name c.args.pair.form ++ (codes "\"}"))) _ c.in_ok-print_content_name.ensures.printed
    (loses_then _ _ _ _ _ (codes "\",\"form\":\"") (form_name c.args.pair.form ++ (codes "\"}")) _ c.in_ok-put-2.ensures.printed
    (loses_front _ _ _ (form_name c.args.pair.form) (codes "\"}") _ (rw c.form_name.ensures at c.in_err-put-3.ensures.printed)))) start text h)

pub returns-clause-printed : goal.returns-clause-printed
unfolding pair_object
returns-clause-printed g c =
    prints_then _ _ _ _ _ _ (codes "{\"content\":\"") (content_name c.args.pair.content ++ (codes "\",\"form\":\"" ++ (form_name c.args.pair.form ++ (codes "\"}")))) _ c.in_ok-put.ensures.printed
    (prints_then _ _ _ _ _ _ (content_name c.args.pair.content) (codes "\",\"form\":\"" ++ (form_name c.args.pair.form ++ (codes "\"}"))) _ c.in_ok-print_content_name.ensures.printed
    (prints_then _ _ _ _ _ _ (codes "\",\"form\":\"") (form_name c.args.pair.form ++ (codes "\"}")) _ c.in_ok-put-2.ensures.printed
    (prints_then _ _ _ _ _ _ (form_name c.args.pair.form) (codes "\"}") _ (rw c.form_name.ensures at c.in_ok-put-3.ensures.printed)
    c.put-4.ensures.printed)))
