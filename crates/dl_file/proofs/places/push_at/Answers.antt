use Rattle.std.proofs.Common.{◌∙◌, length, sym}
use Rattle.dl_file.proofs.BoundLemmas.{grows_at}
use Rattle.dl_file.proofs.places.push_at.Goals as goal

pub returns-clause-few : goal.returns-clause-few
returns-clause-few g c = λ f is short.
    grows_at c.args.elf.now f c.args.line.now.number c.args.at c.in_ok-section.field-0 c.in-Some.section c.push_section.result
    (length f) c.args.places.now.items c.push_section.new.places.items c.in-Some.is
    (c.in_ok-section.ensures.section f is short) (sym c.relocates.ensures ∙ c.if-not-relocates.false)
    (c.push_section.ensures.few f is short)
