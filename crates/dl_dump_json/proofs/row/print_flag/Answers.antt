use Rattle.std.proofs.lemmas.Result.{err_from_is_err_and}
use Rattle.dl_path.proofs.PrintLemmas.{loses_front, prints_then}
use Rattle.dl_dump_json.specs.Members.{boolean}
use Rattle.dl_dump_json.specs.Rows.{flag_member}
use Rattle.dl_dump_json.proofs.row.print_flag.Goals as goal

pub returns-in_err-put-clause-printed : goal.returns-in_err-put-clause-printed
unfolding flag_member
returns-in_err-put-clause-printed g c start text h =
    let e = err_from_is_err_and c.from_residual.result c.from_residual.ensures.1 in
    rw (e.1, e.2) (loses_front _ _ _ (c.args.name.now) (boolean c.args.is_set) _ c.in_err-put.ensures.printed start text h)

pub returns-clause-printed : goal.returns-clause-printed
unfolding flag_member
returns-clause-printed g c =
    prints_then _ _ _ _ _ _ (c.args.name.now) (boolean c.args.is_set) _ c.in_ok-put.ensures.printed
    (rw c.boolean.ensures at c.put-2.ensures.printed)
