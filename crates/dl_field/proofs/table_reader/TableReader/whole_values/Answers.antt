use Rattle.std.proofs.Common.{sym, ◌∙◌}
use Rattle.dl_field.proofs.TableRuns.{place_begun}
use Rattle.dl_field.proofs.table_reader.TableReader.whole_values.Goals as goal

pub returns-in-Value-clause-values : goal.returns-in-Value-clause-values
returns-in-Value-clause-values c =
    let old = c.args.self.now in
    c.values_from.ensures.values
    (place_begun c.args.order c.args.format old c.in-Value.at c.in-Value.value c.len.result c.in-Value.is
    (sym (c.len.ensures ∙ old.pool.ok.0)) (c.is_new.ensures c.if-is_new.true))
