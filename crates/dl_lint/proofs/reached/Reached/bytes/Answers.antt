use Rattle.std.proofs.Common.{◌∙◌, ◌+◌, ℕ, length, sym, ap}
use Rattle.dl_findings.specs.Counting.{at_most_64_bits}
use Rattle.dl_lint.specs.declared.reached.Reached.{Reached}
use Rattle.dl_lint.proofs.KeptLemmas.{reached_bytes}
use Rattle.dl_lint.proofs.reached.Reached.bytes.Goals as goal

pub returns : goal.returns
returns c visits is =
    ap (λ (n : ℕ). record c.args.self.now { next = n }) c.saturating_add-self.ensures
    ∙ ap (λ (at : Reached). record at { next = at_most_64_bits (at.next + length c.args.bytes.now) }) is
    ∙ sym (reached_bytes visits c.args.bytes.now)
