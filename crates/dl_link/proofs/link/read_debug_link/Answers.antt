use Rattle.std.proofs.Common.{◌∙◌, sym}
use Rattle.dl_link.proofs.LinkLemmas.{link_found}
use Rattle.dl_link.proofs.link.read_debug_link.Goals as goal

pub returns-clause-link : goal.returns-clause-link
returns-clause-link g c = λ f is short.
    let number = sym (c.in_ok-number.ensures.number f is short) ∙ c.in-Some.is in
    let section = sym (c.in_ok-section.ensures.section f is short) ∙ c.in-Some-section.is in
    c.link_in.ensures ∙ link_found c.args.elf.now f c.in-Some.number c.in-Some-section.section _ number section
    (c.in_ok-len.ensures.front f is short)
