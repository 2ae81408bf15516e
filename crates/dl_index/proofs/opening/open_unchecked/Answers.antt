use Rattle.std.proofs.Common.{refl, rules, arith}
use Rattle.dl_index.specs.IsIndex.{HasFault}
use Rattle.dl_index.proofs.HeaderLemmas.{front_of}
use Rattle.dl_index.proofs.LayoutLemmas.{layout_by}
use Rattle.dl_index.proofs.opening.open_unchecked.Goals as goal

pub returns-in_err-header-clause-fault : goal.returns-in_err-header-clause-fault
returns-in_err-header-clause-fault c =
    let b = c.args.bytes.now in
    let is = c.in_err-header.ensures.header b (front_of b _ c.min.ensures) refl in
    let has : HasFault b c.in_err-header.field-0.0 = is.0 in
    search rules

pub of-layout-requires-clause-fits : goal.of-layout-requires-clause-fits
of-layout-requires-clause-fits c =
    let b = c.args.bytes.now in
    let end = c.in_ok-header.ensures.fits.end in
    omega arith

pub invariant_of-result-clause-laid_out : goal.invariant_of-result-clause-laid_out
invariant_of-result-clause-laid_out c =
    let b = c.args.bytes.now in
    let is = c.in_ok-header.ensures.header b (front_of b _ c.min.ensures) refl in
    layout_by c.of-layout.ensures is.1 (record { whole = is.0.whole; placed = is.0.placed })

pub invariant_of-result-clause-cut : goal.invariant_of-result-clause-cut
invariant_of-result-clause-cut c =
    let b = c.args.bytes.now in
    let is = c.in_ok-header.ensures.header b (front_of b _ c.min.ensures) refl in
    c.parts_at.ensures (layout_by c.of-layout.ensures is.1 (record { whole = is.0.whole; placed = is.0.placed }))

pub returns-clause-headed : goal.returns-clause-headed
returns-clause-headed c =
    let b = c.args.bytes.now in
    (c.in_ok-header.ensures.header b (front_of b _ c.min.ensures) refl).0
