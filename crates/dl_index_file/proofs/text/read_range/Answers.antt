use Rattle.std.proofs.Common.{inr, arith}
use Rattle.dl_index_file.proofs.TextLemmas.{still_there, one_more}
use Rattle.dl_index_file.proofs.text.read_range.Goals as goal

pub loop-done-preserved : goal.loop-done-preserved
loop-done-preserved g c =
    let l = c.loop-done in
    let first = c.args.out.now.items in
    let r = c.args.range in
    let inv = l.invariant in
    let len = c.min-len.ensures in
    let piece = c.in_ok-push_piece.ensures in (
      omega arith,
      omega (arith, inv.1, piece.longer),
      still_there first l.out.items _ inv.2 piece.keeps,
      λ b is short.
          (let old = inv.3 b is short in
          let place = c.in-Some.ensures.1 in
          let within = piece.within b is short in
          (one_more b first l.out.items _ r.offset l.done c.in-Some.at c.min-len.result old.0 place (piece.bytes b is short), inr (omega arith))),
    )
