use Rattle.std.proofs.Common.{◌++◌, codes}
use Rattle.std.proofs.lemmas.Result.{err_from_is_err_and}
use Rattle.dl_path.proofs.PrintLemmas.{loses_front, loses_then, prints_then}
use Rattle.dl_findings.specs.FindingText.{address_text}
use Rattle.dl_findings.specs.FindingJson.{address_member}
use Rattle.dl_findings.proofs.finding_json.print_address.Goals as goal

pub returns-in_err-put-clause-printed : goal.returns-in_err-put-clause-printed
unfolding address_member
returns-in_err-put-clause-printed g c start text h =
    let e = err_from_is_err_and c.from_residual.result c.from_residual.ensures.1 in
    rw (e.1, e.2) (loses_front _ _ _ (c.args.name.now) ((address_text c.args.address) ++ (codes "\"")) _
    c.in_err-put.ensures.printed start text h)

pub returns-in_err-address-clause-printed : goal.returns-in_err-address-clause-printed
unfolding address_member
returns-in_err-address-clause-printed g c start text h =
    let e = err_from_is_err_and c.from_residual-in_err-address.result c.from_residual-in_err-address.ensures.1 in
    rw (e.1, e.2) (loses_then _ _ _ _ _ (c.args.name.now) ((address_text c.args.address) ++ (codes "\"")) _ c.in_ok-put.ensures.printed
    (loses_front _ _ _ (address_text c.args.address) (codes "\"") _ c.in_err-address.ensures.printed) start text h)

pub returns-clause-printed : goal.returns-clause-printed
unfolding address_member
returns-clause-printed g c =
    prints_then _ _ _ _ _ _ (c.args.name.now) ((address_text c.args.address) ++ (codes "\"")) _ c.in_ok-put.ensures.printed
    (prints_then _ _ _ _ _ _ (address_text c.args.address) (codes "\"") _ c.in_ok-address.ensures.printed
    c.put-2.ensures.printed)
