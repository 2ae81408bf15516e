use Rattle.std.proofs.Common.{◌≡◌, ◌∙◌, ◌+◌, ◌*◌, ◌<◌, ◌≤◌, ◌++◌, true, ap, sym, take}
use Rattle.std.proofs.Math.Nat.{le_trans}
use Rattle.std.specs.Int.{div_ceil}
use Rattle.dl_elf.specs.Sections.{range_within, section_bytes, section_range}
use Rattle.dl_reloc.specs.Entries.{symbol_values}
use Rattle.dl_file.proofs.PieceLemmas.{pieces_within, section_piece, values_most, values_of_section, whole_symbols}
use Rattle.dl_file.proofs.section_bytes.read_values.Goals as goal

pub loop-index-preserved : goal.loop-index-preserved
loop-index-preserved g c = λ f is short.
    let s = c.args.section.now in
    let r = c.section_range-range.result in
    let t = c.args.target.now in
    let i = c.loop-index.index in
    let all = section_bytes s f in
    let of = c.section_range-range.ensures in
    let found : range_within r f ≡ true = sym (c.in_ok-lies_within.ensures.within f is short) ∙ c.if-not-branch.false in
    let within : range_within (section_range s) f ≡ true = rw (← of) found in
    let piece = take c.in-Some.len c.read_piece.new.buffer in
    let told = rw c.in-Some.is at (c.in_ok-len.ensures.bytes f is short found) in
    let next : take (i * 24576) all ++ piece ≡ take ((i + 1) * 24576) all = section_piece r s f i piece of told in
    let less : i < div_ceil r.size 24576 = rw c.div_ceil-index-end.ensures at c.loop-index-test.true in
    let whole = whole_symbols t.class i all (pieces_within r s f i of within less) in
    c.in-Ok-push_symbol_values.ensures.follows (take (i * 24576) all) whole (c.loop-index.invariant f is short)
    ∙ ap (symbol_values t.class t.order) next

pub returns-clause-values : goal.returns-clause-values
returns-clause-values g c = λ f is short.
    let s = c.args.section.now in
    let r = c.section_range-range.result in
    let t = c.args.target.now in
    let of = c.section_range-range.ensures in
    let found : range_within r f ≡ true = sym (c.in_ok-lies_within.ensures.within f is short) ∙ c.if-not-branch.false in
    let within : range_within (section_range s) f ≡ true = rw (← of) found in
    let past : div_ceil r.size 24576 ≤ c.loop-index.index = rw c.div_ceil-index-end.ensures at c.loop-index-test.false in
    values_of_section r s f t c.loop-index.index c.loop-index.values.items of within past
    (c.loop-index.invariant f is short)

pub returns-in_default-push_symbol_values-clause-most : goal.returns-in_default-push_symbol_values-clause-most
returns-in_default-push_symbol_values-clause-most g c = λ f is short.
    let s = c.args.section.now in
    let r = c.section_range-range.result in
    let t = c.args.target.now in
    let i = c.loop-index.index in
    let of = c.section_range-range.ensures in
    let found : range_within r f ≡ true = sym (c.in_ok-lies_within.ensures.within f is short) ∙ c.if-not-branch.false in
    let piece = take c.in-Some.len c.read_piece.new.buffer in
    let told = rw c.in-Some.is at (c.in_ok-len.ensures.bytes f is short found) in
    let most = values_most t s f c.loop-index.values.items piece (i * 24576) ((i + 1) * 24576) (c.loop-index.invariant f is short)
    (section_piece r s f i piece of told) in
    let refused = c.in_default-push_symbol_values.ensures.refused in
    (refused.0, le_trans refused.1 most, refused.2)
