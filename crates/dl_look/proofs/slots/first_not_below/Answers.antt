use Rattle.std.proofs.Common.{◌+◌, ◌-◌, ◌/◌, arith, sym}
use Rattle.dl_look.proofs.SlotLemmas.{goes_up, goes_down}
use Rattle.dl_look.proofs.slots.first_not_below.Goals as goal

pub loop-low-preserved-then-is_below : goal.loop-low-preserved-then-is_below
loop-low-preserved-then-is_below c =
    let l = c.loop-low in
    let i = l.invariant in
    record {
      apart = omega arith;
      within = i.within;
      below = goes_up c.args.slots.now c.args.place (l.low + (l.high - l.low) / 2) c.requires (omega arith)
          (sym c.if-is_below.ensures);
      rest = i.rest;
    }

pub loop-low-preserved : goal.loop-low-preserved
loop-low-preserved c =
    let l = c.loop-low in
    let i = l.invariant in
    record {
      apart = omega arith;
      within = omega arith;
      below = i.below;
      rest = goes_down c.args.slots.now c.args.place (l.low + (l.high - l.low) / 2) c.requires
          (sym c.if-is_below.ensures);
    }
