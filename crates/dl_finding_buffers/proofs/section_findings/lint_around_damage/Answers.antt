use Rattle.std.proofs.Common.{Some, arith, refl}
use Rattle.dl_sections.specs.Commands.{strings_in}
use Rattle.dl_finding_buffers.proofs.LintLemmas.{linted_around}
use Rattle.dl_finding_buffers.proofs.section_findings.lint_around_damage.Goals as goal

pub returns : goal.returns
returns g c =
    let refuses = g.M.Memory.refuses c.args.memory.now in
    let o = c.args.options.now in
    let v = c.lint_around-linted.new.output.written.bytes in
    let ran = c.lint_around-linted.ensures.ran in
    let told = linted_around refuses g.K.Refusing.refuses o.dialect (strings_in o) c.args.question.now c.requires.records
    c.args.section.now v c.new-held.result.written.bytes c.new-held.ensures o.limit c.requires.whole
    (Some c.lint_around-linted.new.input.now) c.end_around.result c.whole.result c.whole.ensures.all c.whole.ensures.refused
    c.lint_around-linted.result (ran.0, ran.1, ran.2 tt)
    (λ is.
    let said = (c.lint_around-linted.ensures.blames c.lint_around-linted.new.input (0, refl)).1 (tt, is) in
    omega (arith, said.1.1, said.1.2))
    (c.lint_around-linted.ensures.blames_writer tt) c.end_around.ensures in (v, told.0, told.1)
