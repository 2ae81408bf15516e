use Rattle.std.proofs.Common.{◌≡◌, ◌<◌, arith, sym, ap, ◌∙◌, [], ◌∷◌, ℕ, List, subst}
use Rattle.dl_num.specs.NumberBytes.{number_bytes}
use Rattle.dl_rows.proofs.operation_state.operand.Goals as goal

pub returns-in-0-clause-step : goal.returns-in-0-clause-step
returns-in-0-clause-step c =
    c.length.ensures.step _ (omega (arith, c.requires.operand.0), ([], ap (λ (z : ℕ). z ∷ []) c.in-0.is, c.new.ensures))

pub returns-in-3-clause-step : goal.returns-in-3-clause-step
returns-in-3-clause-step c =
    c.line.ensures.step c.args.order c.args.params.now _ (
      rw c.in-3.is at c.requires.operand.0,
      ([], ap (λ (z : ℕ). z ∷ []) c.in-3.is, c.new-in-3.ensures),
    )

pub returns-in-9-clause-step : goal.returns-in-9-clause-step
returns-in-9-clause-step c =
    let is : c.args.opcode ∷ [] ≡ 9 ∷ number_bytes c.new-in-9.result =
    ap (λ (z : ℕ). z ∷ []) c.in-9.is ∙ ap (λ (z : List ℕ). 9 ∷ z) (sym c.new-in-9.ensures.empty) in
    c.fixed_add.ensures.step c.args.params.now (c.args.opcode ∷ []) (
      rw c.in-9.is at c.requires.operand.0,
      is,
      c.new-in-9.ensures.size,
    )

pub returns-in-Some-clause-step : goal.returns-in-Some-clause-step
returns-in-Some-clause-step c =
    c.unsigned.ensures.step c.args.order c.args.params.now _ (
      subst (λ (z : ℕ). z < c.args.params.now.opcode_base) (sym c.in-Some.ensures.some) c.requires.operand.0,
      ([], ap (λ (z : ℕ). z ∷ []) (sym c.in-Some.ensures.some), c.new-in-Some.ensures),
    )

pub returns-in-None-clause-step : goal.returns-in-None-clause-step
returns-in-None-clause-step c = c.operands.ensures.step c.args.order
