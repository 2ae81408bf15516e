use Rattle.dl_rows.specs.UnitBodies.{InProgram, BodyStopped}
use Rattle.dl_rows.proofs.UnitBodyFeeds.{tells_fed, tells_fault, tells_again}
use Rattle.dl_rows.proofs.unit_body.BodyState.feed.Goals as goal

pub returns-in-Err-clause-fed : goal.returns-in-Err-clause-fed
returns-in-Err-clause-fed g c b before first s hears =
    let is : InProgram c.args.dialect c.args.header.now c.in-InProgram.body b = rw c.in-InProgram.is at s in
    rw c.stop_by.ensures
    (tells_fault is c.stop-stop.ensures (c.in-Err.ensures.fed b before first is hears))

pub returns-in_default-clause-fed : goal.returns-in_default-clause-fed
returns-in_default-clause-fed g c b before first s hears =
    let is : InProgram c.args.dialect c.args.header.now c.in-InProgram.body b = rw c.in-InProgram.is at s in
    rw c.in_default.is (tells_fed (c.in_default.ensures.fed b before first is hears))

pub returns-in-Stopped-clause-fed : goal.returns-in-Stopped-clause-fed
returns-in-Stopped-clause-fed g c b before first s hears =
    let is : BodyStopped c.args.dialect c.args.header.now c.in-Stopped.stop b = rw c.in-Stopped.is at s in tells_again is hears
