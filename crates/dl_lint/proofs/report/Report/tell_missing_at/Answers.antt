use Rattle.std.proofs.Common.{◌∙◌, List, Option, ap, subst, sym}
use Rattle.std.specs.Prelude.{flat_map, option_map, option_to_list}
use Rattle.std.proofs.lemmas.Result.{err_from_is_err_and}
use Rattle.dl_table.specs.declared.table.entry.Entry.{Entry}
use Rattle.dl_table.specs.EntryHeld.{entry_items}
use Rattle.dl_table.specs.ValuesLeft.{item_lent, values_left}
use Rattle.dl_findings.specs.declared.finding.Finding.{Finding}
use Rattle.dl_table_rules.specs.TableFindings.{missing_entry, missing_item}
use Rattle.dl_lint.proofs.TellLemmas.{Front, all_told, lost, more_told, none_yet}
use Rattle.dl_lint.proofs.report.Report.tell_missing_at.Goals as goal

pub loop-value-init : goal.loop-value-init
loop-value-init g c s ends =
    let old = g.W.Write.contents c.args.output.now in
    let f = missing_item s c.args.unit c.args.number in
    let all = missing_entry s c.args.unit c.args.number (option_map entry_items c.args.entry) in
    subst (λ (l : List Finding). Front old old c.args.self.now c.args.self.now all l)
    (ap (λ (o : Option Entry). missing_entry s c.args.unit c.args.number (option_map entry_items o)) c.in-Some.is
    ∙ ap (flat_map f) (sym (ap values_left c.into_iter-value-iterator.ensures.into_iter_gives ∙ c.values-value-items.ensures)))
    (none_yet old c.args.self.now all)

pub loop-value-preserved : goal.loop-value-preserved
loop-value-preserved g c s ends =
    let f = missing_item s c.args.unit c.args.number in
    more_told (c.loop-value.invariant s ends) (f (item_lent (c.in-Some-2.field-0-0, c.in-Some-2.value)))
    (flat_map f (values_left c.next.new.self)) (ap (flat_map f) c.in-Some-2.ensures.steps)
    (g.W.Write.contents c.tell_any.new.output) c.tell_any.new.self (option_to_list c.missing_text.result)
    (c.missing_text.ensures s ends) c.in_ok-tell_any.ensures.told

pub returns-in_err-tell_any-clause-told : goal.returns-in_err-tell_any-clause-told
returns-in_err-tell_any-clause-told g c s ends =
    let e = err_from_is_err_and c.from_residual.result c.from_residual.ensures.1 in
    let f = missing_item s c.args.unit c.args.number in
    rw (e.1, e.2) (lost (c.loop-value.invariant s ends) (f (item_lent (c.in-Some-2.field-0-0, c.in-Some-2.value)))
    (flat_map f (values_left c.next.new.self)) (ap (flat_map f) c.in-Some-2.ensures.steps)
    (g.W.Write.contents c.tell_any.new.output) c.tell_any.new.self (option_to_list c.missing_text.result)
    (c.missing_text.ensures s ends) _ c.in_err-tell_any.ensures.told)

pub returns-clause-told : goal.returns-clause-told
returns-clause-told g c s ends =
    let l = c.loop-value in
    all_told (subst (λ (rest : List Finding). Front (g.W.Write.contents c.args.output.now) (g.W.Write.contents l.output)
    c.args.self.now l.self (missing_entry s c.args.unit c.args.number (option_map entry_items c.args.entry)) rest)
    (ap (flat_map (missing_item s c.args.unit c.args.number)) c.in-None.ensures.steps.0) (l.invariant s ends))
