use Rattle.std.proofs.Common.{◌≡◌, ◌≤◌, ◌∙◌, sym, length, arith, false}
use Rattle.dl_elf.specs.Notes.{is_build_id}
use Rattle.dl_elf.proofs.NoteLemmas.{notes_after, rest-short}
use Rattle.dl_elf.proofs.build_id.build_id_in.Goals as goal

pub loop-note-preserved : goal.loop-note-preserved
loop-note-preserved c =
    let order = c.args.order in
    let before = c.loop-note.rest.now in
    let rest = c.in-Some.note.rest.now in
    let note = c.in-Some.ensures in
    let other : is_build_id order before ≡ false =
    sym (c.is_build_id.ensures order before note) ∙ c.if-is_build_id.false in
    let fewer : length rest ≤ length before = rest-short order before rest note.rest in (
      omega (arith, fewer, c.loop-note.invariant.0),
      c.loop-note.invariant.1 ∙ notes_after order before rest note.has other note.rest,
    )
