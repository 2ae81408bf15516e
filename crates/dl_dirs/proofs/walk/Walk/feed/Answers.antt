use Rattle.std.proofs.Common.{◌+◌, ◌-◌, ◌++◌, arith, drop, length, length-drop, length-take, subst, take}
use Rattle.dl_dirs.specs.Standing.{StandsFor}
use Rattle.dl_dirs.proofs.HoldLemmas.{if_err}
use Rattle.dl_dirs.proofs.KeepLemmas.{fewer, keeps_more}
use Rattle.dl_dirs.proofs.WalkLemmas.{further, further_within}
use Rattle.dl_dirs.proofs.walk.Walk.feed.Goals as goal

pub loop-preserved : goal.loop-preserved
loop-preserved g c =
    let l = c.loop in
    let piece = c.args.piece.now in
    let used = c.in_ok-at.field-0 in
    let within = c.in_ok-at.ensures.within in
    record {
      within = further_within piece l.at used l.invariant.within within;
      stands = λ order abbreviations b stands.
          let at = l.invariant.stands order abbreviations b stands in
          let took = c.in_ok-at.ensures.stands order abbreviations (b ++ take l.at piece) at.1 in
          let some = took.0 in
          let before = at.0 in (
            omega (arith, some, before),
            subst (StandsFor c.advance.new.self order abbreviations)
                (further b piece l.at used l.invariant.within within) took.1,
          );
      few = λ taken keeps.
          keeps_more c.advance.new.self.places _ (taken + l.at + used) (taken + (l.at + used)) (omega arith)
          (c.in_ok-at.ensures.few (taken + l.at) (l.invariant.few taken keeps));
    }

pub returns-in_err-at-clause-refused : goal.returns-in_err-at-clause-refused
returns-in_err-at-clause-refused g c taken keeps =
    let l = c.loop in
    let piece = c.args.piece.now in
    if_err c.from_residual.result _
    (fewer (g.M.Memory.refuses c.args.memory.now) _ (taken + length piece)
    (omega (arith, l.invariant.within, length-drop l.at piece, length-take (length piece - l.at) (drop l.at piece)))
    (c.in_err-at.ensures.refused (taken + l.at) (l.invariant.few taken keeps)))

pub returns-clause-few : goal.returns-clause-few
returns-clause-few g c taken keeps =
    let l = c.loop in
    keeps_more l.walk.places _ (taken + l.at) (taken + length c.args.piece.now) (omega (arith, l.invariant.within))
    (l.invariant.few taken keeps)
