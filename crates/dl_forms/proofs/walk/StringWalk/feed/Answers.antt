use Rattle.std.proofs.Common.{◌++◌, arith, subst, take}
use Rattle.dl_forms.specs.Standing.{StandsAt}
use Rattle.dl_forms.proofs.WalkLemmas.{further, further_within, wants_further}
use Rattle.dl_forms.proofs.walk.StringWalk.feed.Goals as goal

pub returns-in_default-clause-memory : goal.returns-in_default-clause-memory
returns-in_default-clause-memory c b stands =
    let l = c.loop in
    let piece = c.args.piece.now in
    wants_further c.args.self.dialect b piece l.at
    (c.in_default.ensures.memory (b ++ take l.at piece) (l.invariant.stands b stands).1)

pub loop-preserved : goal.loop-preserved
loop-preserved c =
    let l = c.loop in
    let piece = c.args.piece.now in
    let within = c.in-Ok.ensures.within in
    let taken = further_within piece l.at c.in-Ok.used l.invariant.within within in
    record {
      within = taken;
      stands = λ b stands.
          let at = l.invariant.stands b stands in
          let next = c.in-Ok.ensures.stands (b ++ take l.at piece) at.1 in
          let some = next.0 in
          let before = at.0 in (
            omega (arith, some, before),
            subst (StandsAt c.args.self.dialect c.in-Ok.next)
                (further b piece l.at c.in-Ok.used l.invariant.within within)
                next.1,
          );
    }
