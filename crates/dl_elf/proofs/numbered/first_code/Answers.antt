use Rattle.std.proofs.Common.{◌∙◌, ◌&&◌, sym, ap, arith, Bool}
use Rattle.dl_elf.specs.Numbered.{is_full_at, is_code_at}
use Rattle.dl_elf.proofs.NumberedLemmas.{both_are, first_is, none_more}
use Rattle.dl_elf.proofs.numbered.first_code.Goals.{else-is_code-via-then-is_code+else-is_full, else-is_code-via-else-is_code}
use Rattle.dl_elf.proofs.numbered.first_code.Goals as goal

pub returns-then-is_full-clause-number : goal.returns-then-is_full-clause-number
returns-then-is_full-clause-number g c = λ f is short. sym (first_is
    (λ n. is_code_at c.args.elf.now f n && is_full_at c.args.elf.now f c.args.full n)
    c.loop-number.number c.args.elf.now.count c.loop-number.auto.number c.loop-number-test.true
    (c.loop-number.invariant.none f is short)
    (both_are _ _ _ _ _ (c.in_ok-is_code.ensures.code f is short) (c.in_ok-is_full.ensures.full f is short)
    (ap (λ (z : Bool). z && c.in_ok-is_full.is_full) c.if-is_code.true ∙ c.if-is_full.true)))

pub loop-number-preserved : goal.loop-number-preserved
loop-number-preserved g c = record {
  headers = c.in_ok-is_full.ensures.headers;
  upto = omega (arith, c.loop-number.invariant.upto, c.loop-number-test.true);
  none = λ f is short. none_more (λ n. is_code_at c.args.elf.now f n && is_full_at c.args.elf.now f c.args.full n)
      c.loop-number.number c.loop-number.auto.number (c.loop-number.invariant.none f is short)
      (both_are _ _ _ _ _ (c.in_ok-is_code.ensures.code f is short) (c.in_ok-is_full.ensures.full f is short)
      (elim c.else-is_code.branch [
        | else-is_code-via-then-is_code+else-is_full w ↦
            ap (λ (z : Bool). z && c.in_ok-is_full.is_full) w.if-is_code.true ∙ w.if-is_full.false
        | else-is_code-via-else-is_code w ↦ ap (λ (z : Bool). z && c.in_ok-is_full.is_full) w.if-is_code.false
      ]));
}
