use Rattle.std.proofs.Common.{◌∙◌, ◌+◌, ◌∷◌, [], Bool, ap, length, refl, subst, sym}
use Rattle.std.specs.Prelude.{if◌then◌else◌}
use Rattle.dl_rows.specs.Items.{an_operation}
use Rattle.dl_sections.specs.Section.{of_item}
use Rattle.dl_dump.specs.declared.held_sequence.HeldItem.TheVariants as held
use Rattle.dl_dump.specs.DetailText.{DetailStyle}
use Rattle.dl_dump.specs.RangeDumping.{HasSequence}
use Rattle.dl_dump.specs.RangeText.{Sequence, with_item}
use Rattle.dl_dump.proofs.RangeItemLemmas.{held_or_refused, one_refused, refused_still}
use Rattle.dl_dump.proofs.RangeLemmas.{goes_on_one, nothing_printed, seen, tells_nothing}
use Rattle.dl_dump.proofs.range_dumping.RangeDumperVisitor.operation.Goals as goal
use Rattle.dl_dump.proofs.range_dumping.RangeDumperVisitor.operation.Goals.{then-not-self-via-then-not-self, then-not-self-via-else-not-self+then-self}

pub returns-then-not-self-clause-heard : goal.returns-then-not-self-clause-heard
returns-then-not-self-clause-heard g c first start visits ranged =
    let old = c.args.self.now in
    let v = of_item (an_operation c.args._header.now c.args.operation) in
    let s = seen first visits in
    let item = held.Operation c.args.operation in
    let same = ap (λ (style : DetailStyle). style.details.operations) ranged.style in
    elim c.then-not-self.branch [
      | then-not-self-via-then-not-self w ↦
          tells_nothing ranged v refl refl
          (ap (λ (is : Bool). if is then with_item s item else s) (sym same ∙ w.if-not-self.true))
      | then-not-self-via-else-not-self+then-self w ↦
          goes_on_one ranged old (g.W.Write.contents c.args._output.now) v (nothing_printed _ old.printer.now _ refl) refl refl
          refl refl refl
          (subst (λ (t : Sequence). HasSequence g.M.Memory.refuses old t)
          (sym (ap (λ (is : Bool). if is then with_item s item else s) (sym same ∙ w.if-not-self.false)))
          (refused_still ranged.has (item ∷ []) w.if-self.true))
    ]

pub returns-clause-heard : goal.returns-clause-heard
returns-clause-heard g c first start visits ranged =
    let old = c.args.self.now in
    let v = of_item (an_operation c.args._header.now c.args.operation) in
    let s = seen first visits in
    let item = held.Operation c.args.operation in
    let same = ap (λ (style : DetailStyle). style.details.operations) ranged.style in
    let new = record old { items = record old.items { now = c.push-held.new.list }; is_refused = c.is_err-self.result } in
    goes_on_one ranged new (g.W.Write.contents c.args._output.now) v (nothing_printed _ old.printer.now _ refl) refl refl
    refl refl refl
    (subst (λ (t : Sequence). HasSequence g.M.Memory.refuses new t)
    (sym (ap (λ (is : Bool). if is then with_item s item else s) (sym same ∙ c.if-not-self.false)))
    (held_or_refused ranged.has (item ∷ []) new refl refl c.if-self.false refl c.push-held.result c.is_err-self.ensures.value
    c.push-held.ensures.items
    (one_refused c.push-held.result (g.M.Memory.refuses old.memory.now) (length old.items.now.items + 1) c.push-held.ensures.refused)))
