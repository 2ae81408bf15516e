use Rattle.std.proofs.Common.{◌++◌, ◌∷◌, [], ◌∙◌, ap, arith, length, ℕ}
use Rattle.dl_memory.proofs.RefusalLemmas.{wants_list}
use Rattle.dl_table.specs.declared.table.held.Extent.{Extent}
use Rattle.dl_table.specs.declared.table.held.StoredValue.TheVariants as held
use Rattle.dl_emit.proofs.PartLemmas.{text_exact, text_held, text_wants}
use Rattle.dl_emit.proofs.new_tables.Parts.push_text.Goals as goal

pub returns-clause-exact : goal.returns-clause-exact
returns-clause-exact g c =
    let old = c.args.self.now in
    let at : ℕ → Extent = λ start. record { start = start; len = length c.args.text.now } in
    let start = c.new.ensures ∙ ap at (omega (arith, c.len-start.ensures, old.pool.ok.0)) in
    let values = c.in_ok-push.ensures.items ∙ ap (λ (e : Extent). old.values.items ++ held.Text e ∷ []) start in
    text_exact old (record { values = c.push.new.list; pool = c.extend_from_slice.new.list }) c.requires c.args.text.now
    c.in_ok-extend_from_slice.ensures.items values

pub returns-clause-held : goal.returns-clause-held
returns-clause-held g c =
    let old = c.args.self.now in
    let at : ℕ → Extent = λ start. record { start = start; len = length c.args.text.now } in
    let start = c.new.ensures ∙ ap at (omega (arith, c.len-start.ensures, old.pool.ok.0)) in
    let values = c.in_ok-push.ensures.items ∙ ap (λ (e : Extent). old.values.items ++ held.Text e ∷ []) start in
    text_held old (record { values = c.push.new.list; pool = c.extend_from_slice.new.list }) c.requires c.args.text.now
    c.in_ok-extend_from_slice.ensures.items values

pub returns-in_err-extend_from_slice-clause-refused : goal.returns-in_err-extend_from_slice-clause-refused
returns-in_err-extend_from_slice-clause-refused g c =
    let few = text_wants c.args.self.now c.args.self.now c.requires c.args.text.now in
    wants_list _ _ _ _ (omega (arith, few)) c.in_err-extend_from_slice.ensures.refused

pub returns-in_err-push-clause-refused : goal.returns-in_err-push-clause-refused
returns-in_err-push-clause-refused g c =
    let few = text_wants c.args.self.now c.args.self.now c.requires c.args.text.now in
    wants_list _ _ _ _ (omega (arith, few)) c.in_err-push.ensures.refused
