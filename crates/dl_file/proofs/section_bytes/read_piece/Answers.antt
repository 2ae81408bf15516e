use Rattle.std.proofs.Common.{◌≡◌, ◌+◌, ◌*◌, ◌≤◌, arith, rules}
use borrow.Rule.Slice.PartMut.{post_of}
use Rattle.dl_file.proofs.PieceLemmas.{piece_of}
use Rattle.dl_file.proofs.section_bytes.read_piece.Goals as goal

pub returns-then-branch-clause-bytes : goal.returns-then-branch-clause-bytes
returns-then-branch-clause-bytes g c = λ f is short within.
    let range = c.args.range.now in
    let start = c.args.index * 24576 in
    let less : start ≤ range.size = omega (arith, c.requires) in
    let place : c.in-Some.at ≡ range.offset + start = search rules in
    let filled = (c.in_ok-fill_whole.ensures.bytes f is short).1 c.if-branch.true in
    piece_of range.offset range.size start c.in-Some.at c.min-len.result f c.fill_whole.new.buffer
    (post_of 0 c.min-len.result c.args.buffer.now) place c.min-len.ensures less
    (omega (arith, c.fill_whole.auto.buffer)) filled
