use Rattle.dl_look.proofs.CutLemmas.{covered_more}
use Rattle.dl_look.proofs.cuts.cover.Goals as goal

pub loop-at-preserved : goal.loop-at-preserved
loop-at-preserved c =
    let l = c.loop-at in
    let s = c.close in
    let f = c.first_open-at-in-loop-at in
    covered_more c.args.sequences.now.items l.sequences.items l.links s.new.self f.new.self c.args.low c.args.high l.at
    f.result c.args.sequence l.invariant c.loop-at-test.true c.requires.to s.ensures.count s.ensures.closed s.ensures.same f.ensures.linked f.ensures.count f.ensures.same
    f.ensures.ahead f.ensures.within f.ensures.open f.ensures.closed
