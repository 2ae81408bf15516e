use Rattle.std.proofs.Common.{◌≡◌, ℕ, List, [], ◌∷◌, ◌++◌, decimal, refl, sym, ap, ◌∙◌, append_assoc}
use Rattle.std.proofs.lemmas.List.{append-nil}
use Rattle.std.proofs.lemmas.Result.{err_from_is_err_and}
use Rattle.dl_table.specs.EntryHeld.{entry_items}
use Rattle.dl_table.specs.Held.{value_lent}
use Rattle.dl_table.specs.Value.{Value}
use Rattle.dl_table.specs.ValuesLeft.{values_left}
use Rattle.dl_print.specs.HeaderText.{items_text}
use Rattle.dl_print.specs.ValueText.{named_value, strings_of}
use Rattle.dl_print.proofs.HeaderLemmas.{items_more, items_split}
use Rattle.dl_print.proofs.Outs.{HasPrinted-same, PrintsMore-then, TellsOut-front, TellsOut-part}
use Rattle.dl_print.proofs.output.Printer.entry.Goals as goal

pub returns-in_err-number-clause-printed : goal.returns-in_err-number-clause-printed
returns-in_err-number-clause-printed g c = λ start text h.
    let p = err_from_is_err_and c.from_residual.result c.from_residual.ensures.1 in
    let front = c.args.name.now ++ decimal c.args.number in
    let items = items_text (strings_of c.args.strings.now) (entry_items c.args.entry) in
    rw (
      p.1,
      p.2,
    ) (TellsOut-front start _ text (front ++ items) (10 ∷ []) _
    (TellsOut-front start _ text front items _ (c.in_err-number.ensures.printed start text h)))

pub loop-content-init : goal.loop-content-init
loop-content-init g c = record {
  done = [];
  split = refl;
  printed = λ start text h. rw (append-nil text) h;
}

pub loop-content-preserved : goal.loop-content-preserved
loop-content-preserved g c =
    let l = c.loop-content in
    let done = l.invariant.done in
    let item : ℕ × Value = (c.in-Some.content, value_lent c.in-Some.value) in
    let s = strings_of c.args.strings.now in
    let step : values_left l.content-iterator ≡ item ∷ values_left c.next.new.self = c.in-Some.ensures.steps in
    record {
      done = done ++ item ∷ [];
      split = l.invariant.split ∙ ap (λ (r : List (ℕ × Value)). done ++ r) step
          ∙ sym (append_assoc done (item ∷ []) (values_left c.next.new.self));
      printed =
          PrintsMore-then _ _ _ _ _ _ (items_text s done) (named_value s item.0 item.1)
          (items_text s (done ++ item ∷ [])) (items_more s done item) l.invariant.printed
          c.in_ok-named_value.ensures.printed;
    }

pub returns-in_err-named_value-clause-printed : goal.returns-in_err-named_value-clause-printed
returns-in_err-named_value-clause-printed g c = λ start text h.
    let p = err_from_is_err_and c.from_residual-in_err-named_value.result
    c.from_residual-in_err-named_value.ensures.1 in
    let l = c.loop-content in
    let done = l.invariant.done in
    let item : ℕ × Value = (c.in-Some.content, value_lent c.in-Some.value) in
    let left = values_left c.next.new.self in
    let s = strings_of c.args.strings.now in
    let front = c.args.name.now ++ decimal c.args.number in
    let items = items_text s (entry_items c.args.entry) in
    let given : values_left c.into_iter-content-iterator.result ≡ entry_items c.args.entry =
    ap values_left c.into_iter-content-iterator.ensures.into_iter_gives ∙ c.values-content-items.ensures in
    let step : entry_items c.args.entry ≡ done ++ item ∷ left =
    sym given ∙ l.invariant.split ∙ ap (λ (r : List (ℕ × Value)). done ++ r) c.in-Some.ensures.steps in
    let split = ap (items_text s) step ∙ items_split s done item left in
    let tells =
    c.in_err-named_value.ensures.printed start _
    (l.invariant.printed start _ (c.in_ok-number.ensures.printed start text h)) in
    let within =
    TellsOut-part start _ (text ++ front) (items_text s done) (named_value s item.0 item.1) (items_text s left)
    items _ split tells in
    rw (p.1, p.2) (TellsOut-part start _ text front items (10 ∷ []) (front ++ items ++ 10 ∷ []) _ refl within)

pub returns-clause-printed : goal.returns-clause-printed
returns-clause-printed g c = λ start text h.
    let l = c.loop-content in
    let s = strings_of c.args.strings.now in
    let front = c.args.name.now ++ decimal c.args.number in
    let items = items_text s (entry_items c.args.entry) in
    let given : values_left c.into_iter-content-iterator.result ≡ entry_items c.args.entry =
    ap values_left c.into_iter-content-iterator.ensures.into_iter_gives ∙ c.values-content-items.ensures in
    let none : values_left l.content-iterator ≡ [] = c.in-None.ensures.steps.0 in
    let done : entry_items c.args.entry ≡ l.invariant.done =
    sym given ∙ l.invariant.split ∙ ap (λ (r : List (ℕ × Value)). l.invariant.done ++ r) none
    ∙ append-nil l.invariant.done in
    let all : items_text s l.invariant.done ≡ items = ap (items_text s) (sym done) in
    let whole = l.invariant.printed start _ (c.in_ok-number.ensures.printed start text h) in
    let same : text ++ front ++ items_text s l.invariant.done ≡ text ++ (front ++ items) =
    append_assoc text front (items_text s l.invariant.done) ∙ ap (λ (t : List ℕ). text ++ (front ++ t)) all in
    rw (append_assoc text (front ++ items) (10 ∷ [])) at
    (c.put.ensures.printed start (text ++ (front ++ items)) (HasPrinted-same start _ _ _ _ same whole))
