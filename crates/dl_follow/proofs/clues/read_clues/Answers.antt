use Rattle.std.proofs.Common.{◌∙◌, sym}
use Rattle.dl_elf.specs.Slots.{slot_of}
use Rattle.dl_elf.specs.SectionsHeld.{slots}
use Rattle.dl_follow.proofs.clues.read_clues.Goals as goal

pub returns-then-has_lines : goal.returns-then-has_lines
returns-then-has_lines g c = λ f is short. (
  c.in_ok-elf.elf,
  sym (c.in_ok-elf.ensures.answer f is short),
  slot_of (slots c.in_ok-sections.sections),
  c.in_ok-sections.ensures.found f is short,
  sym c.has_lines.ensures ∙ c.if-has_lines.true,
)

pub returns : goal.returns
returns g c = λ f is short. (
  c.in_ok-elf.elf,
  sym (c.in_ok-elf.ensures.answer f is short),
  slot_of (slots c.in_ok-sections.sections),
  c.in_ok-sections.ensures.found f is short,
  sym c.has_lines.ensures ∙ c.if-has_lines.false,
  rw c.get-note.ensures at c.in_ok-read_build_id.ensures.told f is short,
  c.in_ok-read_debug_link.ensures.link f is short,
)
