use Rattle.std.proofs.Common.{arith}
use Rattle.dl_head.proofs.ValueRuns.{values_whole, nothing_whole}
use Rattle.dl_head.proofs.OfferLemmas.{takes_none}
use Rattle.dl_head.proofs.reader.HeadReader.whole_values.Goals as goal

pub returns-then-piece-lt2-clause-takes : goal.returns-then-piece-lt2-clause-takes
returns-then-piece-lt2-clause-takes c b s more = takes_none c.args.self.now.dialect b c.args.self.now s more

pub returns-then-used-eq0-clause-takes : goal.returns-then-used-eq0-clause-takes
returns-then-used-eq0-clause-takes c b s more =
    let v = c.table_values-used in
    nothing_whole c.inside.result.now v.result c.if-used-eq0.true v.ensures.takes v.ensures.counts s more

pub returns-clause-takes : goal.returns-clause-takes
returns-clause-takes c b s more =
    let v = c.table_values-used in
    values_whole v.result _ c.inside.ensures.inside (omega (arith, c.if-used-eq0.false)) v.ensures.within
    v.ensures.takes v.ensures.counts
    (omega (arith, c.inside.ensures.fits, v.ensures.within, v.ensures.counts.taken)) s more
