use Rattle.dl_rows.proofs.UnitBodyFeeds.{feeds_foreign}
use Rattle.dl_rows.proofs.unit_body.UnitBytes.pass_over.Goals as goal

pub returns-clause-fed : goal.returns-clause-fed
returns-clause-fed c dialect version b is =
    feeds_foreign is c.front-used.ensures c.pause.ensures.used (rw c.pause.ensures.used c.pause.ensures.event)
    (record { taken = c.count.ensures.taken; left = c.count.ensures.left })
