use Rattle.std.proofs.Common.{◌∙◌, sym, ap}
use Rattle.dl_lint.specs.declared.reached.Reached.{Reached}
use Rattle.dl_lint.proofs.KeptLemmas.{reached_operation}
use Rattle.dl_lint.proofs.reached.Reached.operation.Goals as goal

pub returns : goal.returns
returns c visits h o is =
    ap (λ (at : Reached). record at { operation = at.begun; begun = at.next }) is ∙ sym (reached_operation visits h o)
