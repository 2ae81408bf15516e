use Rattle.std.proofs.Common.{◌++◌, codes}
use Rattle.std.proofs.lemmas.Result.{err_from_is_err_and}
use Rattle.dl_path.proofs.PrintLemmas.{loses_front, prints_then}
use Rattle.std.specs.Prelude.{decimal}
use Rattle.dl_findings.specs.FindingJson.{address_member, dead_members}
use Rattle.dl_findings.proofs.finding_json.print_dead.Goals as goal

pub returns-in_err-number-clause-printed : goal.returns-in_err-number-clause-printed
unfolding dead_members
returns-in_err-number-clause-printed g c start text h =
    let e = err_from_is_err_and c.from_residual.result c.from_residual.ensures.1 in
    rw (e.1, e.2) (loses_front _ _ _ (codes ",\"sequences\":" ++ decimal c.args.sequences) (address_member (codes ",\"first\":\"") c.args.first) _ c.in_err-number.ensures.printed start text h)

pub returns-clause-printed : goal.returns-clause-printed
unfolding dead_members
returns-clause-printed g c =
    prints_then _ _ _ _ _ _ (codes ",\"sequences\":" ++ decimal c.args.sequences) (address_member (codes ",\"first\":\"") c.args.first) _ c.in_ok-number.ensures.printed
    c.print_address.ensures.printed
