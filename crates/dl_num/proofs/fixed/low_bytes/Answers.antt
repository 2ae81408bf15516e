use Rattle.std.proofs.Common.{◌≡◌, ◌+◌, ◌-◌, suc, arith}
use Rattle.dl_num.specs.Fixed.{little_bytes}
use Rattle.dl_num.proofs.FixedLemmas.{little-more}
use Rattle.dl_num.proofs.fixed.low_bytes.Goals as goal

pub loop-preserved : goal.loop-preserved
loop-preserved c =
    let left = c.args.size - (c.loop.counter + 1) in
    let one : c.args.size - c.loop.counter ≡ suc left = omega arith in
    let before = rw one at c.loop.invariant.same in
    record {
      len = omega arith;
      same = rw c.push.ensures.items (little-more c.loop.bytes.items (little_bytes c.args.size c.args.number) left
          c.loop.rest before);
    }
