use Rattle.std.proofs.Common.{◌≡◌, ◌∙◌, Some, ap, arith, length, subst, sym, take}
use Rattle.dl_elf.specs.Answers.{Answers}
use Rattle.dl_elf.specs.Elf.{file_header, header_in}
use Rattle.dl_elf.specs.OpenedBySteps.{opened_with}
use Rattle.dl_elf.proofs.OpenedLemmas.{steps_same}
use Rattle.dl_elf.proofs.file.open_elf.Goals as goal

pub returns-clause-answer : goal.returns-clause-answer
returns-clause-answer g c = λ f is short.
    let len : length c.fill.new.buffer ≡ 64 = omega (arith, c.fill.auto.buffer) in
    let header : Some c.in-Some.header ≡ file_header f = sym c.in-Some.is ∙ (c.read.ensures
    ∙ ap header_in (c.in_ok-n.ensures.bytes f is short ∙ ap (λ k. take k f) len)) in
    subst (λ r. Answers r c.opened_with.result) (ap (opened_with f) header ∙ steps_same f (file_header f))
    (c.opened_with.ensures.answer f is short)
