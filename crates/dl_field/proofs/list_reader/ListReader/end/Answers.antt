use Rattle.std.proofs.Common.{List, length, ◌++◌, sym, ap, ◌∙◌, refl}
use Rattle.dl_table.specs.declared.table.Pair.{Pair}
use Rattle.dl_field.specs.Layout.{end_is}
use Rattle.dl_field.specs.ListStep.{listed}
use Rattle.dl_field.proofs.ListLemmas.{list_at, ended_list, end_field}
use Rattle.dl_field.proofs.ValueLemmas.{granted}
use Rattle.dl_field.proofs.list_reader.ListReader.end.Goals as goal

pub returns-clause-made : goal.returns-clause-made
returns-clause-made c = λ going order format next layout rest at.
    let a = list_at c.args.self.now _ format next layout rest c.requires at in (
      end_is (length (listed c.args.self.now.kind)),
      end_field order c.args.self.now _ format next layout rest a refl,
      (
        ended_list c.args.self.now _ _ format next layout rest a refl refl
            (granted c.extend_from_slice.result c.extend_from_slice.ensures.items (sym c.is_err.ensures.value ∙ c.if-is_err.false)
            ∙ ap (λ (l : List Pair). c.args.self.now.pairs.items ++ l) c.pairs-pairs.ensures) refl refl,
        refl,
      ),
    )
