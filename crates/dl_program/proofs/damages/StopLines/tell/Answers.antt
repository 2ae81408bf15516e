use Rattle.std.proofs.Common.{inl, inr, sym, ◌∙◌}
use Rattle.dl_program.proofs.DamageLemmas.{unless_failed, where_failed}
use Rattle.dl_program.proofs.damages.StopLines.tell.Goals as goal

pub returns-then-is_err : goal.returns-then-is_err
returns-then-is_err g c = (
  λ whole. absurd cc,
  λ failed. inr (where_failed _ c.write_line.result (sym c.is_err.ensures.value ∙ c.if-is_err.true)
      c.write_line.ensures.blames),
)

pub returns-else-is_err : goal.returns-else-is_err
returns-else-is_err g c = (
  λ whole. (
    whole,
    unless_failed _ c.write_line.result (sym c.is_err.ensures.value ∙ c.if-is_err.false)
        c.write_line.ensures.written,
  ),
  λ failed. inl failed,
)
