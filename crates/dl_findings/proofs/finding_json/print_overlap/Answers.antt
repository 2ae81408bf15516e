use Rattle.std.proofs.Common.{◌++◌, codes}
use Rattle.std.proofs.lemmas.Result.{err_from_is_err_and}
use Rattle.dl_path.proofs.PrintLemmas.{loses_front, prints_then}
use Rattle.std.specs.Prelude.{decimal}
use Rattle.dl_findings.specs.FindingJson.{both_members, overlap_members}
use Rattle.dl_findings.proofs.finding_json.print_overlap.Goals as goal

pub returns-in_err-print_place-clause-printed : goal.returns-in_err-print_place-clause-printed
unfolding overlap_members
returns-in_err-print_place-clause-printed g c start text h =
    let e = err_from_is_err_and c.from_residual.result c.from_residual.ensures.1 in
    rw (e.1, e.2) (loses_front _ _ _ (both_members (codes ",\"covered\":\"") c.args.place.address (codes ",\"covered_op_index\":") c.args.place.op_index) (codes ",\"unit\":" ++ decimal c.args.unit) _ c.in_err-print_place.ensures.printed start text h)

pub returns-clause-printed : goal.returns-clause-printed
unfolding overlap_members
returns-clause-printed g c =
    prints_then _ _ _ _ _ _ (both_members (codes ",\"covered\":\"") c.args.place.address (codes ",\"covered_op_index\":") c.args.place.op_index) (codes ",\"unit\":" ++ decimal c.args.unit) _ c.in_ok-print_place.ensures.printed
    c.number.ensures.printed
