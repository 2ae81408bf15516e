use Rattle.std.proofs.Common.{◌≤◌, ◌++◌, arith, length, subst, take}
use Rattle.dl_dirs.specs.declared.walk.InfoStage.{InfoStage}
use Rattle.dl_dirs.specs.Standing.{StandsAt, StandsFor}
use Rattle.dl_dirs.proofs.WalkLemmas.{body_ends, body_goes, further}
use Rattle.dl_dirs.proofs.walk.Walk.pass.Goals as goal

pub returns-then-left-piece-clause-stands : goal.returns-then-left-piece-clause-stands
returns-then-left-piece-clause-stands g c order abbreviations b is s =
    let walk = c.args.self.now in
    let stands = subst (λ (x : InfoStage). StandsAt order abbreviations x walk.front.items b s.es) is s.stands in (
      c.requires,
      record {
        order_is = s.order_is;
        abbreviations_are = s.abbreviations_are;
        es = s.es;
        holds = s.holds;
        stands = body_goes order abbreviations b s.es c.args.left c.args.piece.now walk.front.items stands
            (omega (arith, c.if-left-piece.true));
      },
    )

pub returns-clause-stands : goal.returns-clause-stands
returns-clause-stands g c order abbreviations b is s =
    let walk = c.args.self.now in
    let piece = c.args.piece.now in
    let left = c.args.left in
    let le : left ≤ length piece = omega (arith, c.if-left-piece.false) in
    let stands = subst (λ (x : InfoStage). StandsAt order abbreviations x walk.front.items b s.es) is s.stands in
    let took = c.in_ok-begin.ensures.stands order abbreviations (b ++ take left piece) (record {
      order_is = s.order_is;
      abbreviations_are = s.abbreviations_are;
      es = s.es;
      holds = s.holds;
      onward = body_ends order abbreviations b s.es left piece walk.front.items stands le;
    }) in
    let some = took.0 in (
      omega (arith, some),
      subst (StandsFor c.begin.new.self order abbreviations)
          (further b piece left c.in_ok-begin.field-0 le c.in_ok-begin.ensures.within) took.1,
    )
