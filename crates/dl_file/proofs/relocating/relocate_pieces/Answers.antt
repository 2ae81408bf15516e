use Rattle.std.proofs.Common.{◌≡◌, ◌∙◌, ◌+◌, ◌*◌, ◌<◌, ◌++◌, ap, sym, take, drop, Some, Ok, Err}
use Rattle.std.specs.Int.{div_ceil}
use Rattle.std.proofs.lemmas.List.{take-append-drop}
use Rattle.dl_elf.specs.Sections.{section_bytes}
use Rattle.dl_reloc.specs.Relocated.{relocated}
use Rattle.dl_file.specs.Relocations.{by_entries, form_of, target_of, with_fault_of}
use Rattle.dl_file.proofs.AnswerLemmas.{fault_is_made, fault_unread}
use Rattle.dl_file.proofs.PieceLemmas.{pieces_within, section_piece, whole_pieces}
use Rattle.dl_file.proofs.relocating.relocate_pieces.Goals as goal

pub returns-in-Err-clause-made : goal.returns-in-Err-clause-made
returns-in-Err-clause-made g c = λ f is short.
    let e = c.args.elf.now in
    let s = c.args.section.now in
    let r = c.section_range-range.result in
    let t = c.target_of-target.result in
    let form = c.form_of-form.result in
    let i = c.loop-index.index in
    let all = section_bytes s f in
    let of = c.section_range-range.ensures in
    let within = c.requires.within f is short in
    let piece = take c.in-Some.len c.read_piece.new.buffer in
    let told = rw c.in-Some.is at (c.in_ok-len.ensures.bytes f is short (rw of within)) in
    let next : take (i * 24576) all ++ piece ≡ take ((i + 1) * 24576) all = section_piece r s f i piece of told in
    let less : i < div_ceil r.size 24576 = rw c.div_ceil-index-end.ensures at c.loop-index-test.true in
    let whole = whole_pieces t form i all (pieces_within r s f i of within less) in
    let so_far : relocated t form (take (i * 24576) all) c.args.symbols.now c.args.bytes.now ≡ Ok c.loop-index.bytes =
    rw (c.target_of-target.ensures, c.form_of-form.ensures) (c.loop-index.invariant f is short) in
    let rest = drop ((i + 1) * 24576) all in
    let parts : (take (i * 24576) all ++ piece) ++ rest ≡ all =
    ap (λ xs. xs ++ rest) next ∙ take-append-drop ((i + 1) * 24576) all in
    let fault : relocated t form ((take (i * 24576) all ++ piece) ++ rest) c.args.symbols.now c.args.bytes.now
    ≡ Err c.in-Err.fault =
    c.in-Err.ensures.follows (take (i * 24576) all) c.args.bytes.now whole so_far rest in
    let made : relocated (target_of e) (form_of s) all c.args.symbols.now c.args.bytes.now ≡ Err c.in-Err.fault =
    ap (λ k. relocated k (form_of s) all c.args.symbols.now c.args.bytes.now) (sym c.target_of-target.ensures)
    ∙ (ap (λ k. relocated t k all c.args.symbols.now c.args.bytes.now) (sym c.form_of-form.ensures)
    ∙ (ap (λ xs. relocated t form xs c.args.symbols.now c.args.bytes.now) (sym parts) ∙ fault)) in
    fault_is_made (by_entries e c.args.name (form_of s) (Some all) (Some c.args.symbols.now) c.args.bytes.now)
    c.relocate.new.bytes c.fault_of.result
    (ap (with_fault_of e c.args.name) made ∙ ap Err (sym c.fault_of.ensures))

pub returns-in-Err-clause-read : goal.returns-in-Err-clause-read
returns-in-Err-clause-read g c =
    rw c.fault_of.ensures
    (fault_unread (g.S.ReadAt.fails_with c.args.source.now) c.args.elf.now c.args.name c.in-Err.fault)

pub loop-index-preserved : goal.loop-index-preserved
loop-index-preserved g c = λ f is short.
    let e = c.args.elf.now in
    let s = c.args.section.now in
    let r = c.section_range-range.result in
    let t = c.target_of-target.result in
    let form = c.form_of-form.result in
    let i = c.loop-index.index in
    let all = section_bytes s f in
    let of = c.section_range-range.ensures in
    let within = c.requires.within f is short in
    let piece = take c.in-Some.len c.read_piece.new.buffer in
    let told = rw c.in-Some.is at (c.in_ok-len.ensures.bytes f is short (rw of within)) in
    let next : take (i * 24576) all ++ piece ≡ take ((i + 1) * 24576) all = section_piece r s f i piece of told in
    let less : i < div_ceil r.size 24576 = rw c.div_ceil-index-end.ensures at c.loop-index-test.true in
    let whole = whole_pieces t form i all (pieces_within r s f i of within less) in
    let so_far : relocated t form (take (i * 24576) all) c.args.symbols.now c.args.bytes.now ≡ Ok c.loop-index.bytes =
    rw (c.target_of-target.ensures, c.form_of-form.ensures) (c.loop-index.invariant f is short) in
    let made : relocated t form (take (i * 24576) all ++ piece) c.args.symbols.now c.args.bytes.now
    ≡ Ok c.relocate.new.bytes =
    c.in_default-relocate.ensures.follows (take (i * 24576) all) c.args.bytes.now whole so_far in
    let more = take ((i + 1) * 24576) all in
    ap (λ k. relocated k (form_of s) more c.args.symbols.now c.args.bytes.now) (sym c.target_of-target.ensures)
    ∙ (ap (λ k. relocated t k more c.args.symbols.now c.args.bytes.now) (sym c.form_of-form.ensures)
    ∙ (ap (λ xs. relocated t form xs c.args.symbols.now c.args.bytes.now) (sym next) ∙ made))
