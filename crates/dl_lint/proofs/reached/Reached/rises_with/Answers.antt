use Rattle.std.proofs.Common.{◌∙◌, Bool, ap, ap₂, sym}
use Rattle.std.specs.Prelude.{not, ◌&&◌}
use Rattle.dl_lint.specs.Before.{sequence_told}
use Rattle.dl_lint.specs.RowRules.{falls_below}
use Rattle.dl_lint.specs.declared.reached.Reached.{Reached}
use Rattle.dl_lint.proofs.KeptLemmas.{rises_more}
use Rattle.dl_lint.proofs.reached.Reached.rises_with.Goals as goal

pub returns-then-self : goal.returns-then-self
returns-then-self c visits is =
    sym (rises_more (sequence_told visits) c.args.row.now
    ∙ ap₂ (λ (a b : Bool). a && not b) (sym (ap (λ (at : Reached). at.sequence.rising) is) ∙ c.if-self.true)
    (sym (c.falls_below.ensures visits is)))

pub returns-else-self : goal.returns-else-self
returns-else-self c visits is =
    let r = c.args.row.now in
    c.if-self.false
    ∙ sym (rises_more (sequence_told visits) r
    ∙ ap (λ (b : Bool). b && not (falls_below (sequence_told visits) r))
    (sym (ap (λ (at : Reached). at.sequence.rising) is) ∙ c.if-self.false))
