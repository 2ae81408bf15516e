use Rattle.std.proofs.Common.{arith}
use Rattle.dl_table_rules.proofs.TextLemmas.{texts_before}
use Rattle.dl_table_rules.proofs.text_ends.texts_end.Goals as goal

pub returns-else-section-end-ne0 : goal.returns-else-section-end-ne0
returns-else-section-end-ne0 c n =
    texts_before c.args.section.now c.loop-end.end c.loop-end.invariant.1
    (λ some. (c.loop-end.invariant.0, c.if-section-end-ne0.false)) n

pub returns-after-loop-end : goal.returns-after-loop-end
returns-after-loop-end c n =
    texts_before c.args.section.now c.loop-end.end c.loop-end.invariant.1
    (λ some. absurd (omega (arith, some, c.loop-end-test.false))) n
