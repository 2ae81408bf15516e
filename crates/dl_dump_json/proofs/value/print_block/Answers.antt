use Rattle.std.proofs.Common.{◌++◌, codes}
use Rattle.std.proofs.lemmas.Result.{err_from_is_err_and}
use Rattle.dl_path.proofs.PrintLemmas.{loses_front, loses_then, prints_then}
use Rattle.dl_print.specs.Digits.{hexadecimal_bytes}
use Rattle.dl_dump_json.specs.Values.{block_object}
use Rattle.dl_dump_json.proofs.value.print_block.Goals as goal

pub returns-in_err-put-clause-printed : goal.returns-in_err-put-clause-printed
unfolding block_object
returns-in_err-put-clause-printed g c start text h =
    let e = err_from_is_err_and c.from_residual.result c.from_residual.ensures.1 in
    rw (e.1, e.2) (loses_front _ _ _ (codes "{\"block\":\"") (hexadecimal_bytes c.args.bytes.now ++ (codes "\"}")) _ c.in_err-put.ensures.printed start text h)

pub returns-in_err-hexadecimal_bytes-clause-printed : goal.returns-in_err-hexadecimal_bytes-clause-printed
unfolding block_object
returns-in_err-hexadecimal_bytes-clause-printed g c start text h =
    let e = err_from_is_err_and c.from_residual-in_err-hexadecimal_bytes.result c.from_residual-in_err-hexadecimal_bytes.ensures.1 in
    rw (e.1, e.2) (loses_then _ _ _ _ _ (codes "{\"block\":\"") (hexadecimal_bytes c.args.bytes.now ++ (codes "\"}")) _ c.in_ok-put.ensures.printed
    (loses_front _ _ _ (hexadecimal_bytes c.args.bytes.now) (codes "\"}") _ c.in_err-hexadecimal_bytes.ensures.printed) start text h)

pub returns-clause-printed : goal.returns-clause-printed
unfolding block_object
returns-clause-printed g c =
    prints_then _ _ _ _ _ _ (codes "{\"block\":\"") (hexadecimal_bytes c.args.bytes.now ++ (codes "\"}")) _ c.in_ok-put.ensures.printed
    (prints_then _ _ _ _ _ _ (hexadecimal_bytes c.args.bytes.now) (codes "\"}") _ c.in_ok-hexadecimal_bytes.ensures.printed
    c.put-2.ensures.printed)
