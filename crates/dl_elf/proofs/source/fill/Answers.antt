use Rattle.std.proofs.Common.{◌≤◌, length, arith}
use Rattle.std.proofs.lemmas.Slice.{overwrites}
use Rattle.std.proofs.lemmas.List.{places}
use Rattle.dl_elf.proofs.Ranges.{fill_more_known}
use Rattle.dl_elf.proofs.source.fill.Goals as goal

pub loop-filled-preserved : goal.loop-filled-preserved
loop-filled-preserved g c =
    let fits : c.in_ok-n.n ≤ length c.read_some.new.buffer = c.in_ok-n.ensures.bound.0 in (
      grind (arith, overwrites, places, fits),
      fill_more_known (g.S.ReadAt.all_bytes c.args.source.now) c.args.offset c.in-Some.at c.loop-filled.filled
          c.in_ok-n.n c.loop-filled.buffer c.read_some.new.buffer
          c.loop-filled.invariant.0 fits c.in-Some.ensures.1 c.loop-filled.invariant.1 c.in_ok-n.ensures.bytes,
    )
