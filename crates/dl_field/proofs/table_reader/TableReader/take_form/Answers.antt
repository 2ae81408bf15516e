use Rattle.std.proofs.Common.{sym, ◌∙◌, arith}
use Rattle.dl_field.proofs.PairLemmas.{paired}
use Rattle.dl_field.proofs.ValueLemmas.{granted}
use Rattle.dl_field.proofs.table_reader.TableReader.take_form.Goals as goal

pub returns-clause-made : goal.returns-clause-made
returns-clause-made c =
    let more = granted c.push.result c.push.ensures.items (sym c.is_err.ensures.value ∙ c.if-is_err.false) in (
      c.in-Some.form,
      sym c.from_code.ensures ∙ c.in-Some.is,
      λ order format next none some.
          paired order c.args.self.now _ c.args.left _ _ _ format next
          (record { values = none.values; pool = none.pool }) more (omega (arith, c.saturating_sub.ensures))
          c.of_pairs-self.ensures.begins,
    )
