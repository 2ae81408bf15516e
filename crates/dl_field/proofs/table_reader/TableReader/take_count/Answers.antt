use Rattle.std.proofs.Common.{ℕ, Result, Err, subst, arith}
use Rattle.dl_num.specs.LebReader.{UlebIs}
use Rattle.dl_num.specs.declared.leb.LebRange.{LebRange}
use Rattle.dl_field.proofs.PairLemmas.{same_table}
use Rattle.dl_field.proofs.CountLemmas.{count_empty, count_large, tested_none, tested_some}
use Rattle.dl_field.proofs.table_reader.TableReader.take_count.Goals as goal

pub returns-then-is_empty-clause-made : goal.returns-then-is_empty-clause-made
returns-then-is_empty-clause-made c = λ order next layout w none is spelt.
    let large : UlebIs w (Err c.in-Err.field-0) = subst (λ (r : Result ℕ LebRange). UlebIs w r) c.in-Err.is spelt in (
      count_empty order c.args.format next c.args.self.now.pairs.items layout w large.0 is large.1
          (tested_none _ _ _ c.is_empty.ensures c.if-is_empty.true c.args.self.now.pairs.ok.0)
          (λ e. omega (arith, e, large.2)),
      same_table c.args.self.now,
    )

pub returns-else-is_empty-clause-made : goal.returns-else-is_empty-clause-made
returns-else-is_empty-clause-made c = λ order next layout w none is spelt.
    let large : UlebIs w (Err c.in-Err.field-0) = subst (λ (r : Result ℕ LebRange). UlebIs w r) c.in-Err.is spelt in (
      count_large order c.args.format next c.args.self.now.pairs.items layout w large.0 is large.1
          (tested_some _ _ _ c.is_empty.ensures c.if-is_empty.false c.args.self.now.pairs.ok.0) large.2,
      same_table c.args.self.now,
    )
