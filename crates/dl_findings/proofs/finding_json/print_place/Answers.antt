use Rattle.std.proofs.Common.{◌++◌}
use Rattle.std.proofs.lemmas.Result.{err_from_is_err_and}
use Rattle.dl_path.proofs.PrintLemmas.{loses_front, prints_then}
use Rattle.std.specs.Prelude.{decimal}
use Rattle.dl_findings.specs.FindingJson.{address_member, both_members}
use Rattle.dl_findings.proofs.finding_json.print_place.Goals as goal

pub returns-in_err-print_address-clause-printed : goal.returns-in_err-print_address-clause-printed
unfolding both_members
returns-in_err-print_address-clause-printed g c start text h =
    let e = err_from_is_err_and c.from_residual.result c.from_residual.ensures.1 in
    rw (e.1, e.2) (loses_front _ _ _ (address_member c.args.name.now c.args.place.address) (c.args.other.now ++ decimal c.args.place.op_index) _
    c.in_err-print_address.ensures.printed start text h)

pub returns-clause-printed : goal.returns-clause-printed
unfolding both_members
returns-clause-printed g c =
    prints_then _ _ _ _ _ _ (address_member c.args.name.now c.args.place.address) (c.args.other.now ++ decimal c.args.place.op_index) _ c.in_ok-print_address.ensures.printed
    c.print_code.ensures.printed
