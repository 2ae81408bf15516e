use Rattle.std.proofs.Common.{◌≡◌, ◌∙◌, ◌+◌, ◌*◌, ◌≤◌, ◌++◌, true, ap, sym, take, length}
use Rattle.std.specs.Int.{div_ceil}
use Rattle.dl_elf.specs.Sections.{range_within, section_bytes, section_range}
use Rattle.dl_file.proofs.PieceLemmas.{bytes_of_pieces, pieces_most, section_piece}
use Rattle.dl_file.proofs.section_bytes.read_bytes.Goals as goal

pub loop-index-preserved : goal.loop-index-preserved
loop-index-preserved g c = λ f is short.
    let s = c.args.section.now in
    let r = c.section_range-range.result in
    let i = c.loop-index.index in
    let all = section_bytes s f in
    let of = c.section_range-range.ensures in
    let found : range_within r f ≡ true = sym (c.in_ok-lies_within.ensures.within f is short) ∙ c.if-not-branch.false in
    let piece = take c.in-Some.len c.read_piece.new.buffer in
    let told = rw c.in-Some.is at (c.in_ok-len.ensures.bytes f is short found) in
    let next : take (i * 24576) all ++ piece ≡ take ((i + 1) * 24576) all = section_piece r s f i piece of told in
    c.in-Ok-extend_from_slice.ensures.items ∙ (ap (λ front. front ++ piece) (c.loop-index.invariant f is short) ∙ next)

pub returns-clause-bytes : goal.returns-clause-bytes
returns-clause-bytes g c = λ f is short.
    let s = c.args.section.now in
    let r = c.section_range-range.result in
    let of = c.section_range-range.ensures in
    let found : range_within r f ≡ true = sym (c.in_ok-lies_within.ensures.within f is short) ∙ c.if-not-branch.false in
    let within : range_within (section_range s) f ≡ true = rw (← of) found in
    let past : div_ceil r.size 24576 ≤ c.loop-index.index = rw c.div_ceil-index-end.ensures at c.loop-index-test.false in
    bytes_of_pieces r s f c.loop-index.index c.loop-index.bytes.items of within past
    (c.loop-index.invariant f is short)

pub returns-in_default-extend_from_slice-clause-most : goal.returns-in_default-extend_from_slice-clause-most
returns-in_default-extend_from_slice-clause-most g c = λ f is short.
    let s = c.args.section.now in
    let r = c.section_range-range.result in
    let i = c.loop-index.index in
    let of = c.section_range-range.ensures in
    let found : range_within r f ≡ true = sym (c.in_ok-lies_within.ensures.within f is short) ∙ c.if-not-branch.false in
    let piece = take c.in-Some.len c.read_piece.new.buffer in
    let told = rw c.in-Some.is at (c.in_ok-len.ensures.bytes f is short found) in (
      length c.loop-index.bytes.items + length piece,
      pieces_most s f c.loop-index.bytes.items piece (i * 24576) ((i + 1) * 24576) (c.loop-index.invariant f is short)
          (section_piece r s f i piece of told),
      c.in_default-extend_from_slice.ensures.refused,
    )
