use Rattle.std.proofs.Common.{◌≡◌, ◌≤◌, ◌+◌, length, take, drop, ap, sym, ◌∙◌, arith, subst}
use Rattle.dl_crc.specs.Stands.{StandsFor}
use Rattle.dl_link.proofs.PieceLemmas.{next_piece, piece_len}
use Rattle.dl_link.proofs.check_value.crc_of.Goals as goal

pub loop-len-preserved : goal.loop-len-preserved
loop-len-preserved g c = (
  omega (arith, c.fill.auto.buffer, c.loop-len.invariant.0),
  λ f is short.
      let offset = c.loop-len.offset in
      let n = c.in_ok-len.len in
      let piece = c.fill.new.buffer in
      let before = c.loop-len.invariant.1 f is short in
      let within : n ≤ length piece = c.in_ok-len.ensures.bound.0 in
      let full : length piece ≡ n =
      omega (arith, within, c.if-len-lt-PIECE.false, c.fill.auto.buffer, c.loop-len.invariant.0) in
      let came : take n piece ≡ take n (drop offset f) =
      c.in_ok-len.ensures.bytes f is short ∙ ap (λ m. take m (drop offset f)) full in
      let next : c.saturating_add-next.result ≡ offset + n =
      omega (arith, c.saturating_add-next.ensures, c.if-next.false) in
      let few = piece_len f piece offset n n within came in (
        subst (StandsFor c.update.new.self) (next_piece f piece offset n came ∙ ap (λ k. take k f) (sym next))
            (c.update.ensures (take offset f) before.0),
        omega (arith, next, few.2, before.1),
      ),
)
