use Rattle.std.proofs.Common.{◌++◌, codes}
use Rattle.std.proofs.lemmas.Result.{err_from_is_err_and}
use Rattle.dl_path.proofs.PrintLemmas.{loses_front, loses_then, prints_then}
use Rattle.std.specs.Str.Lossy.{utf8_lossy}
use Rattle.json.specs.Print.{escape}
use Rattle.dl_dump_json.proofs.member.print_string.Goals as goal

pub returns-in_err-put-clause-printed : goal.returns-in_err-put-clause-printed
returns-in_err-put-clause-printed g c start text h =
    let e = err_from_is_err_and c.from_residual.result c.from_residual.ensures.1 in
    rw (e.1, e.2) (loses_front _ _ _ (codes "\"") (escape (utf8_lossy c.args.text.now) ++ (codes "\"")) _ c.in_err-put.ensures.printed start text h)

pub returns-in_err-print_json_text-clause-printed : goal.returns-in_err-print_json_text-clause-printed
returns-in_err-print_json_text-clause-printed g c start text h =
    let e = err_from_is_err_and c.from_residual-in_err-print_json_text.result c.from_residual-in_err-print_json_text.ensures.1 in
    rw (e.1, e.2) (loses_then _ _ _ _ _ (codes "\"") (escape (utf8_lossy c.args.text.now) ++ (codes "\"")) _ c.in_ok-put.ensures.printed
    (loses_front _ _ _ (escape (utf8_lossy c.args.text.now)) (codes "\"") _ c.in_err-print_json_text.ensures.printed) start text h)

pub returns-clause-printed : goal.returns-clause-printed
returns-clause-printed g c =
    prints_then _ _ _ _ _ _ (codes "\"") (escape (utf8_lossy c.args.text.now) ++ (codes "\"")) _ c.in_ok-put.ensures.printed
    (prints_then _ _ _ _ _ _ (escape (utf8_lossy c.args.text.now)) (codes "\"") _ c.in_ok-print_json_text.ensures.printed
    c.put-2.ensures.printed)
