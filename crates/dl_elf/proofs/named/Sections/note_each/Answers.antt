use Rattle.std.proofs.Common.{◌≡◌, ℕ, ◌<◌, None, arith, ap, sym, ◌∙◌, inl, inr, length, rules}
use Rattle.std.proofs.lemmas.Bool.{cases_lt}
use Rattle.std.proofs.lemmas.List.{get_or-set_other}
use Rattle.std.proofs.lemmas.Grind.{get_or-set_at}
use Rattle.dl_elf.specs.Slots.{name_at, noted, slot_at}
use Rattle.dl_elf.proofs.named.Sections.note_each.Goals as goal

pub loop-index-preserved : goal.loop-index-preserved
loop-index-preserved c =
    let l = c.loop-index in
    let found = l.self.found in
    let kept = c.noted.result in
    record {
      done = λ k lt. elim (cases_lt k l.index) [
        | inl less ↦ get_or-set_other found l.index k kept None (λ same. absurd (omega (arith, same, less)))
            ∙ l.invariant.done k less
        | inr more ↦ (
            let same : k ≡ l.index = omega (arith, lt, more) in
            let small : l.index < length found = search rules in
            let now = c.args in
            let here : kept ≡ noted now.bytes.now now.number now.header (name_at l.index) (slot_at found l.index) =
            search rules in
            get_or-set_at found l.index k kept None same small
            ∙ here
            ∙ ap (noted now.bytes.now now.number now.header (name_at l.index)) (l.invariant.rest l.index (omega arith))
            ∙ ap (λ (n : ℕ). noted now.bytes.now now.number now.header (name_at n) (slot_at now.self.now.found n))
            (sym same)
            )
      ];
      rest = λ k le. get_or-set_other found l.index k kept None (λ same. absurd (omega (arith, same, le)))
          ∙ l.invariant.rest k (omega (arith, le));
      forward = l.invariant.forward;
    }
