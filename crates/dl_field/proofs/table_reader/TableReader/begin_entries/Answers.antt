use Rattle.std.proofs.Common.{refl, arith}
use Rattle.dl_field.specs.Layout.{number_is}
use Rattle.dl_field.proofs.PairLemmas.{same_table}
use Rattle.dl_field.proofs.CountLemmas.{no_entries, first_entry, count_empty, tested_none, tested_some}
use Rattle.dl_field.proofs.table_reader.TableReader.begin_entries.Goals as goal

pub returns-then-count-eq0-clause-made : goal.returns-then-count-eq0-clause-made
returns-then-count-eq0-clause-made c = λ order next layout w none is spelt.
    let e = no_entries order c.args.self.now c.args.format next layout w c.args.count none is spelt
    c.if-count-eq0.true in (
      number_is 0,
      e.0,
      (
        record {
          entries = e.1.entries;
          holds = e.1.holds;
          summed = e.1.summed;
          some_pairs = e.1.some_pairs;
          layout_is = e.1.layout_is;
        },
        refl,
      ),
    )

pub returns-then-is_empty-clause-made : goal.returns-then-is_empty-clause-made
returns-then-is_empty-clause-made c = λ order next layout w none is spelt. (
  count_empty order c.args.format next c.args.self.now.pairs.items layout w c.args.count is spelt
      (tested_none _ _ _ c.is_empty.ensures c.if-is_empty.true c.args.self.now.pairs.ok.0) c.if-count-eq0.false,
  same_table c.args.self.now,
)

pub returns-clause-made : goal.returns-clause-made
returns-clause-made c = λ order next layout w none is spelt.
    let e = first_entry order c.args.self.now c.begin_value.new.self c.args.format next layout w c.args.count none is
    spelt c.if-count-eq0.false (omega arith)
    (tested_some _ _ _ c.is_empty.ensures c.if-is_empty.false c.args.self.now.pairs.ok.0) c.begin_value.ensures.goes in
    (number_is c.args.count, e.0, e.1)
