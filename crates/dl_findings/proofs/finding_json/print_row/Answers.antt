use Rattle.std.proofs.Common.{◌++◌, codes}
use Rattle.std.proofs.lemmas.Result.{err_from_is_err_and}
use Rattle.dl_path.proofs.PrintLemmas.{loses_front, prints_then}
use Rattle.std.specs.Prelude.{decimal}
use Rattle.dl_findings.specs.FindingJson.{both_members, row_members}
use Rattle.dl_findings.proofs.finding_json.print_row.Goals as goal

pub returns-in_err-number-clause-printed : goal.returns-in_err-number-clause-printed
unfolding row_members
returns-in_err-number-clause-printed g c start text h =
    let e = err_from_is_err_and c.from_residual.result c.from_residual.ensures.1 in
    rw (e.1, e.2) (loses_front _ _ _ (codes ",\"row\":" ++ decimal c.args.row.now.number) (both_members (codes ",\"address\":\"") c.args.row.now.place.address (codes ",\"op_index\":") c.args.row.now.place.op_index) _
    c.in_err-number.ensures.printed start text h)

pub returns-clause-printed : goal.returns-clause-printed
unfolding row_members
returns-clause-printed g c =
    prints_then _ _ _ _ _ _ (codes ",\"row\":" ++ decimal c.args.row.now.number) (both_members (codes ",\"address\":\"") c.args.row.now.place.address (codes ",\"op_index\":") c.args.row.now.place.op_index) _ c.in_ok-number.ensures.printed
    c.print_place.ensures.printed
