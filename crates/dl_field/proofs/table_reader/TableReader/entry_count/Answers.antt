use Rattle.std.proofs.Common.{◌∷◌, ◌++◌, []}
use Rattle.dl_field.proofs.PairLemmas.{table_at, answered_none}
use Rattle.dl_field.proofs.CountLemmas.{count_open}
use Rattle.dl_field.proofs.table_reader.TableReader.entry_count.Goals as goal

pub returns-in-None-clause-made : goal.returns-in-None-clause-made
returns-in-None-clause-made c = λ order next layout rest at.
    let a = table_at order c.args.self.now _ c.args.format next layout rest c.requires at in
    let took = answered_none _ (rest ++ c.args.byte ∷ []) _ c.in-None.is (c.push.ensures.answer rest a.2) in (
      count_open order c.args.format next _ c.args.self.now.pairs.items layout _ (rest ++ c.args.byte ∷ []) a.1 took,
      (record { values = a.0.values; pool = a.0.pool }, a.1, took),
    )
