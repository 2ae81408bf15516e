use Rattle.std.proofs.Common.{◌≡◌, ℕ, List, [], ◌∷◌, ◌++◌, refl, sym, ap, ◌∙◌, append_assoc}
use Rattle.std.proofs.lemmas.List.{append-nil}
use Rattle.std.proofs.lemmas.Result.{err_from_is_err_and}
use Rattle.std.specs.List.{flat_map}
use Rattle.dl_table.specs.EntryHeld.{entry_items}
use Rattle.dl_table.specs.Held.{value_lent}
use Rattle.dl_table.specs.Value.{Value}
use Rattle.dl_table.specs.ValuesLeft.{values_left}
use Rattle.dl_print.specs.ValueText.{strings_of}
use Rattle.dl_print.proofs.Outs.{HasPrinted-same, PrintsMore-then, TellsOut-part}
use Rattle.dl_dump_json.specs.Values.{value_member}
use Rattle.dl_dump_json.proofs.ValueLemmas.{values_more, values_split}
use Rattle.dl_dump_json.proofs.entry.print_values.Goals as goal

pub loop-content-init : goal.loop-content-init
loop-content-init g c = record { done = []; split = refl; printed = λ start text h. rw (append-nil text) h }

pub loop-content-preserved : goal.loop-content-preserved
loop-content-preserved g c =
    let l = c.loop-content in
    let done = l.invariant.done in
    let item : ℕ × Value = (c.in-Some.content, value_lent c.in-Some.value) in
    let s = strings_of c.args.strings.now in
    let step : values_left l.content-iterator ≡ item ∷ values_left c.next.new.self = c.in-Some.ensures.steps in
    record {
      done = done ++ item ∷ [];
      split = l.invariant.split ∙ ap (λ (r : List (ℕ × Value)). done ++ r) step
          ∙ sym (append_assoc done (item ∷ []) (values_left c.next.new.self));
      printed =
          PrintsMore-then _ _ _ _ _ _ (flat_map (value_member s) done) (value_member s item)
          (flat_map (value_member s) (done ++ item ∷ [])) (values_more s done item) l.invariant.printed
          c.in_ok-print_named_value.ensures.printed;
    }

pub returns-in_err-print_named_value-clause-printed : goal.returns-in_err-print_named_value-clause-printed
returns-in_err-print_named_value-clause-printed g c start text h =
    let p = err_from_is_err_and c.from_residual.result c.from_residual.ensures.1 in
    let l = c.loop-content in
    let done = l.invariant.done in
    let item : ℕ × Value = (c.in-Some.content, value_lent c.in-Some.value) in
    let left = values_left c.next.new.self in
    let s = strings_of c.args.strings.now in
    let items = flat_map (value_member s) (entry_items c.args.entry) in
    let given : values_left c.into_iter-content-iterator.result ≡ entry_items c.args.entry =
    ap values_left c.into_iter-content-iterator.ensures.into_iter_gives ∙ c.values-content-items.ensures in
    let step : entry_items c.args.entry ≡ done ++ item ∷ left =
    sym given ∙ l.invariant.split ∙ ap (λ (r : List (ℕ × Value)). done ++ r) c.in-Some.ensures.steps in
    let split = ap (flat_map (value_member s)) step ∙ values_split s done item left in
    rw (p.1, p.2) (TellsOut-part start _ text (flat_map (value_member s) done) (value_member s item)
    (flat_map (value_member s) left) items _ split
    (c.in_err-print_named_value.ensures.printed start _ (l.invariant.printed start text h)))

pub returns-clause-printed : goal.returns-clause-printed
returns-clause-printed g c start text h =
    let l = c.loop-content in
    let s = strings_of c.args.strings.now in
    let given : values_left c.into_iter-content-iterator.result ≡ entry_items c.args.entry =
    ap values_left c.into_iter-content-iterator.ensures.into_iter_gives ∙ c.values-content-items.ensures in
    let done : entry_items c.args.entry ≡ l.invariant.done =
    sym given ∙ l.invariant.split ∙ ap (λ (r : List (ℕ × Value)). l.invariant.done ++ r) c.in-None.ensures.steps.0
    ∙ append-nil l.invariant.done in
    HasPrinted-same start _ _ _ _ (ap (λ (items : List (ℕ × Value)). text ++ flat_map (value_member s) items) (sym done))
    (l.invariant.printed start text h)
