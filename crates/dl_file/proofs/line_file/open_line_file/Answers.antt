use Rattle.std.proofs.Common.{◌+◌, ◌^◌, length, ◌∙◌, sym, ap}
use Rattle.std.proofs.lemmas.Result.{err_from_is_err_and}
use Rattle.dl_elf.specs.Notes.{build_id_of}
use Rattle.dl_elf.specs.Slots.{slot_of}
use Rattle.dl_elf.specs.SectionsHeld.{slots}
use Rattle.dl_file.proofs.LineTableLemmas.{opens_fault, opens_none, opens_table}
use Rattle.dl_file.proofs.RefusedLemmas.{line_too_long}
use Rattle.dl_memory.specs.Refusals.{IsRefused, WasRefused}
use Rattle.dl_file.proofs.line_file.open_line_file.Goals as goal

pub returns-in_err-elf-clause-opens : goal.returns-in_err-elf-clause-opens
returns-in_err-elf-clause-opens g c = λ f is short.
    let p = err_from_is_err_and c.from_residual.result c.from_residual.ensures.1 in
    rw (p.1, p.2) (opens_fault g.S.ReadAt g.S.ReadAt.all_bytes g.S.ReadAt.fails_with (g.S.ReadAt.fails_with c.args.source.now) f c.args.wanted c.in_err-elf.field-0.0
    (c.in_err-elf.ensures.answer f is short))

pub returns-in_default-clause-opens : goal.returns-in_default-clause-opens
returns-in_default-clause-opens g c = λ f is short.
    let e = c.in_ok-elf.elf in
    opens_none f c.args.wanted e (slot_of (slots c.in_ok-sections.sections)) c.in_ok-read_build_id.field-0
    (c.in_ok-elf.ensures.answer f is short) (c.in_ok-sections.ensures.found f is short)
    (sym c.in_default.is ∙ c.new.ensures)
    (c.in_ok-read_build_id.ensures.told f is short ∙ ap (λ note. build_id_of e f note) c.get-note.ensures)

pub returns-clause-opens : goal.returns-clause-opens
returns-clause-opens g c = λ f is short.
    opens_table g.S.ReadAt.all_bytes g.S.ReadAt.fails_with (g.S.ReadAt.fails_with c.args.source.now) f c.args.wanted c.in_ok-elf.elf (slot_of (slots c.in_ok-sections.sections))
    c.in-Some.chosen c.open_chosen.result (c.in_ok-elf.ensures.answer f is short)
    (c.in_ok-sections.ensures.found f is short) (sym c.in-Some.is ∙ c.new.ensures)
    (c.open_chosen.ensures.opens f is short)

pub returns-clause-refused : goal.returns-clause-refused
returns-clause-refused g c = λ f is short.
    line_too_long (WasRefused (g.M.Memory.refuses c.args.memory.now)) f c.args.wanted c.in_ok-elf.elf
    (slot_of (slots c.in_ok-sections.sections)) c.in-Some.chosen c.open_chosen.result (c.in_ok-elf.ensures.answer f is short)
    (c.in_ok-sections.ensures.found f is short) (sym c.in-Some.is ∙ c.new.ensures) (c.open_chosen.ensures.refused f is short)

pub returns-clause-most : goal.returns-clause-most
returns-clause-most g c = λ f is short.
    line_too_long (IsRefused (g.M.Memory.refuses c.args.memory.now) (length f + 2 ^ 32)) f c.args.wanted c.in_ok-elf.elf
    (slot_of (slots c.in_ok-sections.sections)) c.in-Some.chosen c.open_chosen.result (c.in_ok-elf.ensures.answer f is short)
    (c.in_ok-sections.ensures.found f is short) (sym c.in-Some.is ∙ c.new.ensures) (c.open_chosen.ensures.most f is short)
