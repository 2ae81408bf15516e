use Rattle.std.proofs.Common.{subst}
use Rattle.dl_index.specs.IsIndex.{HasFault}
use Rattle.dl_index.proofs.CheckLemmas.{no_fault}
use Rattle.dl_index.proofs.opening.open.Goals as goal

pub returns-in_err-check-clause-opens : goal.returns-in_err-check-clause-opens
returns-in_err-check-clause-opens c is =
    let fault = c.in_err-check.field-0.0 in
    absurd
    (no_fault c.args.bytes.now fault is
    (subst (λ b. HasFault b fault) c.in_ok-index.ensures.bytes c.in_err-check.ensures.fault))
