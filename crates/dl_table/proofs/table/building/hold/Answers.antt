use Rattle.dl_table.specs.Held.{bytes_lent}
use Rattle.dl_table.proofs.HeldLemmas.{values_held-push}
use Rattle.dl_table.proofs.table.building.hold.Goals as goal

pub returns-clause-values : goal.returns-clause-values
returns-clause-values c =
    let pushed = rw c.unwrap.ensures at c.push.ensures.items in
    let value = rw c.pool_bytes-next.ensures.items at c.pool_bytes-next.ensures.value in
    rw (pushed, c.pool_bytes-next.ensures.items)
    (values_held-push c.args.pool.now.items (bytes_lent c.args.value.now) c.args.held.now.items _ _ c.requires.within
    value)
