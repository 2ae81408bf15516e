use Rattle.std.proofs.Common.{◌++◌, codes}
use Rattle.std.proofs.lemmas.Result.{err_from_is_err_and}
use Rattle.dl_path.proofs.PrintLemmas.{loses_front, loses_then, prints_then}
use Rattle.dl_print.specs.Digits.{hexadecimal_of}
use Rattle.dl_dump_json.specs.Rows.{address_member}
use Rattle.dl_dump_json.proofs.row.print_address.Goals as goal

pub returns-in_err-put-clause-printed : goal.returns-in_err-put-clause-printed
unfolding address_member
returns-in_err-put-clause-printed g c start text h =
    let e = err_from_is_err_and c.from_residual.result c.from_residual.ensures.1 in
    rw (e.1, e.2) (loses_front _ _ _ (codes "{\"kind\":\"row\",\"address\":\"") (codes "0x" ++ hexadecimal_of 16 c.args.address ++ (codes "\"")) _ c.in_err-put.ensures.printed start text h)

pub returns-in_err-address-clause-printed : goal.returns-in_err-address-clause-printed
unfolding address_member
returns-in_err-address-clause-printed g c start text h =
    let e = err_from_is_err_and c.from_residual-in_err-address.result c.from_residual-in_err-address.ensures.1 in
    rw (e.1, e.2) (loses_then _ _ _ _ _ (codes "{\"kind\":\"row\",\"address\":\"") (codes "0x" ++ hexadecimal_of 16 c.args.address ++ (codes "\"")) _ c.in_ok-put.ensures.printed
    (loses_front _ _ _ (codes "0x" ++ hexadecimal_of 16 c.args.address) (codes "\"") _ c.in_err-address.ensures.printed) start text h)

pub returns-clause-printed : goal.returns-clause-printed
unfolding address_member
returns-clause-printed g c =
    prints_then _ _ _ _ _ _ (codes "{\"kind\":\"row\",\"address\":\"") (codes "0x" ++ hexadecimal_of 16 c.args.address ++ (codes "\"")) _ c.in_ok-put.ensures.printed
    (prints_then _ _ _ _ _ _ (codes "0x" ++ hexadecimal_of 16 c.args.address) (codes "\"") _ c.in_ok-address.ensures.printed
    c.put-2.ensures.printed)
