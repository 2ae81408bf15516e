use Rattle.std.proofs.Common.{◌∙◌, ◌+◌, ◌++◌, ap, arith, inl, length, length-append, length-take, sym, take}
use Rattle.dl_file.proofs.WholeLemmas.{more_read}
use Rattle.dl_file.proofs.whole_bytes.read_whole.Goals as goal

-- the next piece is kept
pub loop-n-preserved-in-Ok-extend_from_slice : goal.loop-n-preserved-in-Ok-extend_from_slice
loop-n-preserved-in-Ok-extend_from_slice g c =
    let so = c.loop-n.invariant in
    record {
      name = c.read.ensures.name ∙ so.name;
      damage = c.read.ensures.damage ∙ so.damage;
      later = λ error at. so.later error (c.read.ensures.later error at);
      left = λ small. omega (
        arith,
        so.left small,
        c.in-Ok.ensures.left,
        c.in-Ok.ensures.bound,
        ap length c.in-Ok-extend_from_slice.ensures.items,
        length-append c.loop-n.bytes.items (take c.in-Ok.n c.read.new.buffer),
        length-take c.in-Ok.n c.read.new.buffer,
      );
      read = λ bytes is small.
          let at = so.read bytes is small in
          let more = more_read bytes c.loop-n.bytes.items at.0 _ _ _ at.1 c.in-Ok.ensures.bytes.0 at.2 in
          (more.0, more.1, more.2 ∙ ap (λ l. l ++ more.0) (sym c.in-Ok-extend_from_slice.ensures.items));
    }

pub returns-in_default-extend_from_slice-clause-most : goal.returns-in_default-extend_from_slice-clause-most
returns-in_default-extend_from_slice-clause-most g c =
    let left = c.loop-n.invariant.left c.if-size-le-HELD_LIMIT-2.true in
    let piece = take c.in-Ok.n c.read.new.buffer in
    inl (
      length c.loop-n.bytes.items + length piece,
      omega (
        arith,
        left,
        c.in-Ok.ensures.left,
        c.in-Ok.ensures.bound,
        length-take c.in-Ok.n c.read.new.buffer,
        c.if-size-le-HELD_LIMIT-2.true,
      ),
      c.in_default-extend_from_slice.ensures.refused,
    )
