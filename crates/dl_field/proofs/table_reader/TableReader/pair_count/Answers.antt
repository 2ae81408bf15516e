use Rattle.dl_field.specs.Layout.{number_is}
use Rattle.dl_field.proofs.PairLemmas.{table_at, count_spelt, counted}
use Rattle.dl_field.proofs.table_reader.TableReader.pair_count.Goals as goal

pub returns-clause-made : goal.returns-clause-made
returns-clause-made c = λ order format next layout rest at.
    let a = table_at order c.args.self.now _ format next layout rest c.requires at in (
      number_is c.args.byte,
      count_spelt order format next layout rest c.args.byte a.1 a.2,
      counted order _ c.args.byte _ format next layout a.0.pairs (record { values = a.0.values; pool = a.0.pool }) a.1
          c.of_pairs-self.ensures.begins,
    )
