use Rattle.std.proofs.Common.{◌++◌, ◌∷◌, [], ◌∙◌, ap, refl}
use Rattle.dl_memory.proofs.RefusalLemmas.{wants_list}
use Rattle.dl_table.specs.declared.table.held.StoredValue.TheVariants as held
use Rattle.dl_emit.proofs.PartLemmas.{number_exact, number_held, number_wants}
use Rattle.dl_emit.proofs.new_tables.Parts.push_number.Goals as goal

pub returns-clause-exact : goal.returns-clause-exact
returns-clause-exact g c =
    let old = c.args.self.now in
    let values = c.in_ok-push.ensures.items ∙ ap (λ n. old.values.items ++ held.Number n ∷ []) c.new.ensures in
    number_exact old (record { values = c.push.new.list; pool = old.pool }) c.requires c.args.number refl values

pub returns-clause-held : goal.returns-clause-held
returns-clause-held g c =
    let old = c.args.self.now in
    let values = c.in_ok-push.ensures.items ∙ ap (λ n. old.values.items ++ held.Number n ∷ []) c.new.ensures in
    number_held old (record { values = c.push.new.list; pool = old.pool }) c.requires c.args.number refl values

pub returns-in_err-push-clause-refused : goal.returns-in_err-push-clause-refused
returns-in_err-push-clause-refused g c =
    wants_list _ _ _ _ (number_wants c.args.self.now c.args.self.now c.requires c.args.number) c.in_err-push.ensures.refused
