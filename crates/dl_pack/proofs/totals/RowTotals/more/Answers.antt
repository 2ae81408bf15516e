use Rattle.dl_pack.proofs.TotalLemmas.{rows_none, rows_some}
use Rattle.dl_pack.proofs.totals.RowTotals.more.Goals as goal

pub returns-in-Some : goal.returns-in-Some
returns-in-Some c = λ list are.
    rows_some c.args.self.now list c.args.stretch.now c.in-Some.told c.in-Some.is are _ _ _ c.max-self.ensures
    c.max-self-in-Some.ensures c.max-self-in-Some-2.ensures

pub returns-in-None : goal.returns-in-None
returns-in-None c = λ list are. rows_none c.args.self.now list c.args.stretch.now c.in-None.is are
