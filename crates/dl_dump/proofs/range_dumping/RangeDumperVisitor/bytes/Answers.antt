use Rattle.std.proofs.Common.{◌∙◌, ◌+◌, ap, length, refl, subst, sym}
use Rattle.std.proofs.lemmas.List.{length-map}
use Rattle.std.specs.Prelude.{OnErr, map, ℕ}
use Rattle.dl_memory.specs.Refusals.{IsRefused}
use Rattle.dl_dump.specs.declared.held_sequence.HeldItem.TheVariants as held
use Rattle.dl_dump.specs.DetailText.{DetailStyle}
use Rattle.dl_dump.specs.RangeDumping.{HasSequence, style_held}
use Rattle.dl_dump.specs.RangeText.{Sequence}
use Rattle.dl_dump.proofs.RangeItemLemmas.{bytes_held, held_or_refused, nothing_of_bytes, refused_still, same_after_bytes}
use Rattle.dl_dump.proofs.RangeLemmas.{goes_on, nothing_printed, seen}
use Rattle.dl_dump.proofs.ShowingLemmas.{byte_visits, no_damage}
use Rattle.dl_dump.proofs.range_dumping.RangeDumperVisitor.bytes.Goals as goal
use Rattle.dl_dump.proofs.range_dumping.RangeDumperVisitor.bytes.Goals.{then-not-self-via-then-not-self, then-not-self-via-else-not-self+then-self}

pub returns-then-not-self-clause-heard : goal.returns-then-not-self-clause-heard
returns-then-not-self-clause-heard g c first start visits ranged =
    let old = c.args.self.now in
    let bytes = c.args.bytes.now in
    let style = style_held first in
    let s = seen first visits in
    let same = ap (λ (style : DetailStyle). style.details.operations) ranged.style in
    elim c.then-not-self.branch [
      | then-not-self-via-then-not-self w ↦
          goes_on ranged old (g.W.Write.contents c.args._output.now) (byte_visits bytes)
          (nothing_printed _ old.printer.now _ (nothing_of_bytes style first.range s bytes)) refl refl (no_damage bytes) refl
          refl (subst (λ (t : Sequence). HasSequence g.M.Memory.refuses old t)
          (sym (same_after_bytes style first.range (sym same ∙ w.if-not-self.true) s bytes)) ranged.has)
      | then-not-self-via-else-not-self+then-self w ↦
          goes_on ranged old (g.W.Write.contents c.args._output.now) (byte_visits bytes)
          (nothing_printed _ old.printer.now _ (nothing_of_bytes style first.range s bytes)) refl refl (no_damage bytes) refl
          refl (subst (λ (t : Sequence). HasSequence g.M.Memory.refuses old t)
          (sym (bytes_held style first.range (sym same ∙ w.if-not-self.false) s bytes))
          (refused_still ranged.has (map held.Byte bytes) w.if-self.true))
    ]

pub returns-clause-heard : goal.returns-clause-heard
returns-clause-heard g c first start visits ranged =
    let old = c.args.self.now in
    let bytes = c.args.bytes.now in
    let style = style_held first in
    let s = seen first visits in
    let same = ap (λ (style : DetailStyle). style.details.operations) ranged.style in
    let new = record old { items = record old.items { now = c.hold_bytes.new.items }; is_refused = c.is_err-self.result } in
    goes_on ranged new (g.W.Write.contents c.args._output.now) (byte_visits bytes)
    (nothing_printed _ old.printer.now _ (nothing_of_bytes style first.range s bytes)) refl refl (no_damage bytes) refl refl
    (subst (λ (t : Sequence). HasSequence g.M.Memory.refuses new t)
    (sym (bytes_held style first.range (sym same ∙ c.if-not-self.false) s bytes))
    (held_or_refused ranged.has (map held.Byte bytes) new refl refl c.if-self.false refl c.hold_bytes.result
    c.is_err-self.ensures.value c.hold_bytes.ensures.held
    (subst (λ (n : ℕ). OnErr c.hold_bytes.result (IsRefused (g.M.Memory.refuses old.memory.now) (length old.items.now.items + n)))
    (sym (length-map bytes held.Byte)) c.hold_bytes.ensures.refused)))
