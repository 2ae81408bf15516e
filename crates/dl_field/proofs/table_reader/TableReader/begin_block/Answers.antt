use Rattle.std.proofs.Common.{[], ◌∷◌, ◌++◌, refl, sym, ap, ◌∙◌, arith}
use Rattle.dl_table.specs.declared.table.held.Extent.{Extent}
use Rattle.dl_table.specs.declared.table.held.StoredValue.TheVariants as held
use Rattle.dl_field.proofs.ValueLemmas.{granted}
use Rattle.dl_field.proofs.BlockSteps.{empty_block, begun_block}
use Rattle.dl_field.proofs.table_reader.TableReader.begin_block.Goals as goal

pub returns-then-size-eq0-clause-begins : goal.returns-then-size-eq0-clause-begins
returns-then-size-eq0-clause-begins c = (
  c.if-size-eq0.true,
  λ order next layout v rest is clear.
      empty_block order c.args.self.now c.push.new.list.items c.end_value.new.self c.args.at _ _ c.args.format next
      layout v rest is clear (c.len-start.ensures ∙ c.args.self.now.pool.ok.0) (omega arith) c.end_value.ensures.goes
      (granted c.push.result c.push.ensures.items (sym c.is_err.ensures.value ∙ c.if-is_err.false)
      ∙ ap (λ (e : Extent). c.args.self.now.values.items ++ held.Block e ∷ []) c.new.ensures),
)

pub returns-clause-begins : goal.returns-clause-begins
returns-clause-begins c = (
  omega arith,
  λ order next layout v rest w is clear len.
      begun_block order c.args.self.now _ c.args.at v _ _ c.args.size c.args.format next layout rest w is clear len
      (omega arith) (c.len-start.ensures ∙ c.args.self.now.pool.ok.0) (omega arith) refl refl refl
      (granted c.push.result c.push.ensures.items (sym c.is_err.ensures.value ∙ c.if-is_err.false)
      ∙ ap (λ (e : Extent). c.args.self.now.values.items ++ held.Block e ∷ []) c.new.ensures),
)
