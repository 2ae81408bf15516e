use Rattle.std.proofs.lemmas.Bool.Decides.{same_from_decides}
use Rattle.dl_table.specs.Equal.{same_table}
use Rattle.dl_table.specs.EqualLaws.{same_table-Decides}
use Rattle.dl_table.proofs.table.equal.TablePartialEq.eq.Goals as goal

pub returns-clause-value : goal.returns-clause-value
returns-clause-value c =
    let s = c.args.self.now in
    let t = c.args.other.now in
    same_from_decides c.is_same.result (same_table s t) c.is_same.ensures (same_table-Decides s t)
