use Rattle.std.proofs.Common.{[], Err, ◌++◌, arith, refl, sym, ◌∙◌}
use Rattle.dl_sections.proofs.DamagedRuns.{ends, goes_on, hit, not_damage}
use Rattle.dl_sections.proofs.AroundSteps.{all_read, are, at_unit, byte_left, counted_rest, enters, fewer, no_more, no_rest, of_all, past, reads_on, short_here, short_rest, some_rest, stops, tells, within_limit}
use Rattle.dl_sections.proofs.around.UnitsAround.feed.Goals as goal

pub units-init : goal.units-init
units-init g c = record {
  short = short_rest c.args.self.now c.args.piece.now c.requires.short c.pass_over-rest.ensures.rest
      c.pass_over-rest.ensures.read;
  counted = omega arith;
  fed = λ dialect s first start so. so;
}

pub go_on-requires : goal.go_on-requires
go_on-requires g c =
    record {
      short = byte_left c.units.self.read c.units.rest.now
          (some_rest c.units.rest.now c.is_empty.ensures c.units-test.true) c.units.invariant.short;
    }

pub returns-in-Stop-clause-fed : goal.returns-in-Stop-clause-fed
returns-in-Stop-clause-fed g c dialect t first start is =
    let so = c.units.invariant.fed dialect (t ++ c.args.piece.now) first start
    (enters is c.args.piece.now c.requires.short c.pass_over-rest.ensures.rest c.pass_over-rest.ensures.read) in
    let some = some_rest c.units.rest.now c.is_empty.ensures c.units-test.true in
    let r = at_unit so some in
    let short = within_limit so c.units.invariant.short in
    let w = c.in-Err.ensures.worked dialect (past so.is r.0 r.1) r.0 [] r.0 first start (are so.is r.0 r.1)
    (short_here so.is r.0 r.1 c.units.rest.now short) (tells so.is r.0 r.1) in
    rw so.whole (ends so.is r.0 r.1 c.units.rest.now short
    (hit c.in-Some.damage c.in-Err.fault w (sym c.damage.ensures ∙ c.in-Some.is) c.damaged.ensures) c.damaged.ensures
    c.go_on.new.self c.go_on.ensures.counted c.in-Stop.is c.go_on.ensures.next)

pub units-smaller : goal.units-smaller
units-smaller g c =
    fewer c.go_on.new.self c.units.self.read c.units.rest.now
    (some_rest c.units.rest.now c.is_empty.ensures c.units-test.true) c.go_on.ensures.read
    (c.go_on.ensures.later c.in-On.is) c.pass_over-rest-in-On.ensures.rest

pub units-preserved : goal.units-preserved
units-preserved g c = record {
  short = short_rest c.go_on.new.self c.units.rest.now
      (omega (arith, c.go_on.ensures.read, c.units.invariant.short)) c.pass_over-rest-in-On.ensures.rest
      c.pass_over-rest-in-On.ensures.read;
  counted = counted_rest c.go_on.new.self c.units.rest.now
      (omega (arith, c.go_on.ensures.read, c.units.invariant.counted)) c.pass_over-rest-in-On.ensures.rest
      c.pass_over-rest-in-On.ensures.read;
  fed = λ dialect s first start entered.
      let so = c.units.invariant.fed dialect s first start entered in
      let some = some_rest c.units.rest.now c.is_empty.ensures c.units-test.true in
      let r = at_unit so some in
      let short = within_limit so c.units.invariant.short in
      let w = c.in-Err.ensures.worked dialect (past so.is r.0 r.1) r.0 [] r.0 first start (are so.is r.0 r.1)
      (short_here so.is r.0 r.1 c.units.rest.now short) (tells so.is r.0 r.1) in
      rw (so.whole, c.pass_over-rest-in-On.ensures.rest) (goes_on so.is r.0 r.1 c.units.rest.now short
      (hit c.in-Some.damage c.in-Err.fault w (sym c.damage.ensures ∙ c.in-Some.is) c.damaged.ensures)
      c.damaged.ensures c.go_on.new.self c.go_on.ensures.counted c.go_on.ensures.read c.in-On.is c.go_on.ensures.next
      c.pass_over-rest-in-On.new.self c.pass_over-rest-in-On.ensures.read);
}

pub returns-in-Ok-On-clause-fed : goal.returns-in-Ok-On-clause-fed
returns-in-Ok-On-clause-fed g c dialect t first start is =
    let so = c.units.invariant.fed dialect (t ++ c.args.piece.now) first start
    (enters is c.args.piece.now c.requires.short c.pass_over-rest.ensures.rest c.pass_over-rest.ensures.read) in
    let r = at_unit so (some_rest c.units.rest.now c.is_empty.ensures c.units-test.true) in
    let short = within_limit so c.units.invariant.short in
    rw so.whole (reads_on so.is r.0 r.1 c.units.rest.now short
    (rw c.in-Ok-On.field-0-is at (c.in-Ok-On.ensures.worked dialect (past so.is r.0 r.1) r.0 [] r.0 first start (are so.is r.0 r.1)
    (short_here so.is r.0 r.1 c.units.rest.now short) (tells so.is r.0 r.1))) _ (rw c.saturating_add-self.ensures refl))

pub returns-in-Ok-Stop-clause-fed : goal.returns-in-Ok-Stop-clause-fed
returns-in-Ok-Stop-clause-fed g c dialect t first start is =
    let so = c.units.invariant.fed dialect (t ++ c.args.piece.now) first start
    (enters is c.args.piece.now c.requires.short c.pass_over-rest.ensures.rest c.pass_over-rest.ensures.read) in
    let r = at_unit so (some_rest c.units.rest.now c.is_empty.ensures c.units-test.true) in
    let short = within_limit so c.units.invariant.short in
    rw so.whole (no_more so.is r.0 r.1 c.units.rest.now short {u = c.work_through.new.units}
    (rw c.in-Ok-Stop.field-0-is at (c.in-Ok-Stop.ensures.worked dialect (past so.is r.0 r.1) r.0 [] r.0 first start
    (are so.is r.0 r.1) (short_here so.is r.0 r.1 c.units.rest.now short) (tells so.is r.0 r.1))) _ refl)

pub returns-in_default-clause-fed : goal.returns-in_default-clause-fed
returns-in_default-clause-fed g c dialect t first start is =
    let so = c.units.invariant.fed dialect (t ++ c.args.piece.now) first start
    (enters is c.args.piece.now c.requires.short c.pass_over-rest.ensures.rest c.pass_over-rest.ensures.read) in
    let r = at_unit so (some_rest c.units.rest.now c.is_empty.ensures c.units-test.true) in
    let short = within_limit so c.units.invariant.short in
    of_all so _ _ (record c.units.self { units = c.work_through.new.units }) (Err c.in-Err.fault)
    (stops so.is r.0 r.1 c.units.rest.now _ _ _ c.in-Err.fault (not_damage c.in-Err.fault (sym c.damage.ensures ∙ c.in_default.is))
    (c.in-Err.ensures.worked dialect (past so.is r.0 r.1) r.0 [] r.0 first start
    (are so.is r.0 r.1) (short_here so.is r.0 r.1 c.units.rest.now short) (tells so.is r.0 r.1))
    (record c.units.self { units = c.work_through.new.units }))

pub returns-clause-fed : goal.returns-clause-fed
returns-clause-fed g c dialect t first start is =
    let so = c.units.invariant.fed dialect (t ++ c.args.piece.now) first start
    (enters is c.args.piece.now c.requires.short c.pass_over-rest.ensures.rest c.pass_over-rest.ensures.read) in
    all_read so (no_rest c.units.rest.now c.is_empty.ensures c.units-test.false)

pub returns-in_default-clause-blames_writer : goal.returns-in_default-clause-blames_writer
returns-in_default-clause-blames_writer g c dialect t first start is =
    let so = c.units.invariant.fed dialect (t ++ c.args.piece.now) first start
    (enters is c.args.piece.now c.requires.short c.pass_over-rest.ensures.rest c.pass_over-rest.ensures.read) in
    let r = at_unit so (some_rest c.units.rest.now c.is_empty.ensures c.units-test.true) in
    let short = within_limit so c.units.invariant.short in
    c.in-Err.ensures.blames_writer dialect (past so.is r.0 r.1) r.0 [] r.0 first start
    (are so.is r.0 r.1) (short_here so.is r.0 r.1 c.units.rest.now short) (tells so.is r.0 r.1)
