use Rattle.std.proofs.Common.{Some, arith, refl}
use Rattle.dl_sections.specs.Commands.{strings_in}
use Rattle.dl_finding_buffers.proofs.LintLemmas.{linted_to_fault}
use Rattle.dl_finding_buffers.proofs.section_findings.lint_to_fault.Goals as goal

pub returns : goal.returns
returns g c =
    let refuses = g.M.Memory.refuses c.args.memory.now in
    let o = c.args.options.now in
    let v = c.lint-linted.new.output.written.bytes in
    let told = linted_to_fault refuses g.K.Refusing.refuses o.dialect (strings_in o) c.args.question.now c.requires.records
    c.args.section.now v c.new-held.result.written.bytes c.new-held.ensures o.limit c.requires.whole
    (Some c.lint-linted.new.input.now) c.end_of.result c.whole.result c.whole.ensures.all c.whole.ensures.refused
    c.lint-linted.result c.lint-linted.ensures.ran
    (λ is. let said = (c.lint-linted.ensures.blames c.lint-linted.new.input (0, refl)).1 is in omega (arith, said.1.1, said.1.2))
    c.lint-linted.ensures.blames_writer c.end_of.ensures in (v, told.0, told.1)
