use Rattle.std.proofs.Common.{◌≡◌, ◌≤◌, ◌-◌, ap, arith, length, length-take, refl, sym, take}
use Rattle.dl_dirs.specs.declared.walk.InfoStage.TheVariants as state
use Rattle.dl_dirs.specs.declared.walk.Walk.{Walk}
use Rattle.dl_dirs.proofs.WalkLemmas.{grew, grew_out, some_awaited}
use Rattle.dl_dirs.proofs.walk.Walk.grow.Goals as goal

pub returns-then-used-awaited-clause-stands : goal.returns-then-used-awaited-clause-stands
returns-then-used-awaited-clause-stands g c order abbreviations b is s =
    let walk = c.args.self.now in
    let used = c.min-used.result in
    let u = take used c.args.piece.now in
    let new : Walk = record {
      abbreviations = walk.abbreviations;
      state = state.Begun (c.args.awaited - used);
      front = c.extend_from_slice.new.list;
      places = walk.places;
    } in
    let whole : length u ≡ used = omega (arith, length-take used c.args.piece.now, c.min-used.ensures) in
    let some = some_awaited walk order abbreviations b c.args.awaited is s in (
      omega (arith, some, c.requires, c.min-used.ensures),
      grew walk new order abbreviations b u c.args.awaited refl refl
          (ap (λ n. state.Begun (c.args.awaited - n)) (sym whole)) c.in_ok-extend_from_slice.ensures.items
          (omega (arith, whole, c.if-used-awaited.true)) is s,
    )

pub returns-in_ok-read_front-clause-stands : goal.returns-in_ok-read_front-clause-stands
returns-in_ok-read_front-clause-stands g c order abbreviations b is s =
    let walk = c.args.self.now in
    let used = c.min-used.result in
    let u = take used c.args.piece.now in
    let new : Walk = record {
      abbreviations = walk.abbreviations;
      state = walk.state;
      front = c.extend_from_slice.new.list;
      places = walk.places;
    } in
    let within : length u ≤ c.args.awaited = omega (arith, length-take used c.args.piece.now, c.min-used.ensures) in
    let out = grew_out walk new order abbreviations b u c.args.awaited refl refl c.in_ok-extend_from_slice.ensures.items within is s in
    let some = some_awaited walk order abbreviations b c.args.awaited is s in
    (omega (arith, some, c.requires, c.min-used.ensures), c.in_ok-read_front.ensures.stands order abbreviations _ out.0 out.1)
