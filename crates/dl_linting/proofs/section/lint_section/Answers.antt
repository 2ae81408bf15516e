use Rattle.std.proofs.Common.{◌∙◌, sym}
use Rattle.dl_sections.proofs.BlameLemmas.{blames_where}
use Rattle.dl_linting.proofs.LintingLemmas.{around_over, whole_over, whole_read, whole_writer}
use Rattle.dl_linting.proofs.section.lint_section.Goals as goal

pub returns-then-wish-clause-ran : goal.returns-then-wish-clause-ran
returns-then-wish-clause-ran g c = rw c.if-wish.true c.lint_around.ensures.ran

pub returns-then-wish-clause-over : goal.returns-then-wish-clause-over
returns-then-wish-clause-over g c none = around_over _ c.lint_around.result (c.lint_around.ensures.over none)

pub returns-clause-ran : goal.returns-clause-ran
returns-clause-ran g c =
    let ran = c.lint.ensures.ran in
    rw c.if-wish.false (ran.0, ran.1, λ untold. (untold, c.lint.result, c.whole.ensures, ran.2))

pub returns-clause-blames : goal.returns-clause-blames
returns-clause-blames g c =
    blames_where c.lint.ensures.blames (λ e. whole_read c.lint.result (sym c.whole.ensures ∙ e.1))

pub returns-clause-blames_writer : goal.returns-clause-blames_writer
returns-clause-blames_writer g c none = rw c.whole.ensures (whole_writer _ c.lint.result c.lint.ensures.blames_writer)

pub returns-clause-over : goal.returns-clause-over
returns-clause-over g c none = whole_over _ c.lint.result c.whole.result c.whole.ensures c.lint.ensures.over
