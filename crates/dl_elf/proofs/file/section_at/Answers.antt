use Rattle.std.proofs.Common.{◌≡◌, Some, arith, ap, ◌∙◌}
use Rattle.dl_elf.proofs.Headers.{no_section_past, section_cut, section_shown}
use Rattle.dl_elf.proofs.file.section_at.Goals as goal

pub returns-in_default-clause-section : goal.returns-in_default-clause-section
returns-in_default-clause-section g c =
    no_section_past (g.S.ReadAt.all_bytes c.args.source.now) c.args.header.now c.args.number c.in_default.ensures

pub returns-then-branch-size-clause-section : goal.returns-then-branch-size-clause-section
returns-then-branch-size-clause-section g c = λ f is short.
    section_cut c.args.header.now c.args.number c.in-Some.at c.section_header_size-size.result c.in_ok-show.field-0
    _ f c.in-Some.ensures c.section_header_size-size.ensures c.if-branch-size.true c.in_ok-show.ensures.len
    (c.in_ok-show.ensures.bytes f is short)

pub returns-clause-section : goal.returns-clause-section
returns-clause-section g c = λ f is short.
    let h = c.args.header.now in
    let size = c.section_header_size-size.result in
    let all : c.in_ok-show.field-0 ≡ size = omega (arith, c.if-branch-size.false, c.in_ok-show.ensures.most) in
    let cut = rw all at (c.in_ok-show.ensures.bytes f is short) in
    ap Some c.section_fields.ensures
    ∙ section_shown h c.args.number c.in-Some.at size c.shown-bytes.result.now f c.in-Some.ensures
    c.section_header_size-size.ensures c.shown-bytes.ensures.len (c.shown-bytes.ensures.bytes ∙ cut)
