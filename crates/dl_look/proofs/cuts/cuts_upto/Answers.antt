use Rattle.std.proofs.Common.{◌+◌, ◌-◌, ◌/◌, arith, sym}
use Rattle.dl_look.proofs.CutLemmas.{search_up, search_down}
use Rattle.dl_look.proofs.cuts.cuts_upto.Goals as goal

pub loop-low-preserved-then-is_at_most : goal.loop-low-preserved-then-is_at_most
loop-low-preserved-then-is_at_most c =
    let l = c.loop-low in
    let i = l.invariant in
    record {
      apart = omega arith;
      within = i.within;
      upto = search_up c.args.cuts.now c.args.place (l.low + (l.high - l.low) / 2) c.requires (omega arith)
          (sym c.if-is_at_most.ensures);
      above = i.above;
    }

pub loop-low-preserved : goal.loop-low-preserved
loop-low-preserved c =
    let l = c.loop-low in
    let i = l.invariant in
    record {
      apart = omega arith;
      within = omega arith;
      upto = i.upto;
      above = search_down c.args.cuts.now c.args.place (l.low + (l.high - l.low) / 2) c.requires (omega arith)
          (sym c.if-is_at_most.ensures);
    }
