use Rattle.dl_elf.specs.Slots.{slot_of}
use Rattle.dl_elf.specs.SectionsHeld.{slots}
use Rattle.dl_member.proofs.TableLemmas.{found_or_not, not_opened}
use Rattle.dl_member.proofs.line_table.has_no_table.Goals as goal

pub returns-in-Ok-find_sections : goal.returns-in-Ok-find_sections
returns-in-Ok-find_sections g c = λ f is short.
    found_or_not f c.in-Ok.elf (slot_of (slots c.in-Ok-find_sections.sections)) c.has_line_section.result
    (g.S.ReadAt.fails_with c.args.file.now) c.has_line_section.ensures (c.in-Ok.ensures.answer f is short)
    (c.in-Ok-find_sections.ensures.found f is short)

pub returns-in-Err : goal.returns-in-Err
returns-in-Err g c = λ f is short.
    not_opened f c.in-Err.fault c.is_not_elf.result (g.S.ReadAt.fails_with c.args.file.now) c.is_not_elf.ensures
    (c.in-Err.ensures.answer f is short) c.in-Err.ensures.read
