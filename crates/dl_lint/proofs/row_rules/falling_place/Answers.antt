use Rattle.std.proofs.Common.{◌∙◌, Bool, ap₂, sym}
use Rattle.dl_findings.specs.declared.finding.Found.TheVariants as found
use Rattle.dl_look.specs.declared.place.Place.{Place}
use Rattle.dl_lint.specs.Before.{sequence_told}
use Rattle.dl_lint.specs.RowRules.{found_if}
use Rattle.dl_lint.proofs.KeptLemmas.{falls_some, last_of_sequence}
use Rattle.dl_lint.proofs.row_rules.falling_place.Goals as goal

pub returns : goal.returns
returns c visits h is =
    let r = c.args.row.now in
    let falls = sym (c.falls_below.ensures visits is) ∙ c.if-not-falls_below.false in
    c.found.ensures visits is
    ∙ ap₂ (λ (b : Bool) (p : Place). found_if b visits r (found.FallingPlace p)) (sym falls)
    (last_of_sequence c.args.at.now visits is (falls_some (sequence_told visits) r falls))
