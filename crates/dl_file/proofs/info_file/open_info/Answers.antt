use Rattle.std.proofs.Common.{◌+◌, ◌^◌, length, None, refl, sym, ◌∙◌}
use Rattle.dl_elf.specs.Slots.{slot_of}
use Rattle.dl_elf.specs.SectionsHeld.{slots}
use Rattle.dl_file.proofs.InfoLemmas.{has_info, info_within, of_sections, opens_info}
use Rattle.dl_file.proofs.RefusedLemmas.{info_too_long}
use Rattle.dl_memory.specs.Refusals.{IsRefused, WasRefused}
use Rattle.dl_file.proofs.info_file.open_info.Goals as goal

pub returns-in_default-clause-opens : goal.returns-in_default-clause-opens
returns-in_default-clause-opens g c = λ f is short.
    let e = c.in-Ok.elf in
    let at = slot_of (slots c.in_ok-sections.sections) in (
      None,
      has_info f e at None (c.in-Ok.ensures.answer f is short) (c.in_ok-sections.ensures.found f is short)
          (of_sections e f at None None (sym c.in_default.is ∙ c.in_ok-found.ensures.found f is short) refl),
      refl,
    )

pub open_found-requires-clause-within : goal.open_found-requires-clause-within
open_found-requires-clause-within g c = λ f is short.
    info_within c.in-Ok.elf f (slot_of (slots c.in_ok-sections.sections)) c.in-Some.found
    (sym c.in-Some.is ∙ c.in_ok-found.ensures.found f is short)

pub returns-clause-opens : goal.returns-clause-opens
returns-clause-opens g c = λ f is short.
    opens_info {S = g.row.S.Denot} g.S.ReadAt.all_bytes g.S.ReadAt.fails_with (g.S.ReadAt.fails_with c.args.source.now) f c.in-Ok.elf (slot_of (slots c.in_ok-sections.sections))
    c.in-Some.found c.open_found.result (c.in-Ok.ensures.answer f is short) (c.in_ok-sections.ensures.found f is short)
    (sym c.in-Some.is ∙ c.in_ok-found.ensures.found f is short) (c.open_found.ensures.opens f is short)

pub returns-clause-refused : goal.returns-clause-refused
returns-clause-refused g c = λ f is short.
    info_too_long (WasRefused (g.M.Memory.refuses c.args.memory.now)) f c.in-Ok.elf
    (slot_of (slots c.in_ok-sections.sections)) c.in-Some.found c.open_found.result (c.in-Ok.ensures.answer f is short)
    (c.in_ok-sections.ensures.found f is short) (sym c.in-Some.is ∙ c.in_ok-found.ensures.found f is short)
    (c.open_found.ensures.refused f is short)

pub returns-clause-most : goal.returns-clause-most
returns-clause-most g c = λ f is short.
    info_too_long (IsRefused (g.M.Memory.refuses c.args.memory.now) (length f + 2 ^ 32)) f c.in-Ok.elf
    (slot_of (slots c.in_ok-sections.sections)) c.in-Some.found c.open_found.result (c.in-Ok.ensures.answer f is short)
    (c.in_ok-sections.ensures.found f is short) (sym c.in-Some.is ∙ c.in_ok-found.ensures.found f is short)
    (c.open_found.ensures.most f is short)
