use Rattle.std.proofs.Common.{◌≡◌, ◌⊎◌, inl, inr, arith, ◌∙◌, ap, max}
use Rattle.dl_pack.proofs.TotalLemmas.{starts_more}
use Rattle.dl_pack.proofs.totals.StartTotals.more.Goals as goal
use Rattle.dl_pack.proofs.totals.StartTotals.more.Goals.{then-self-eq0, else-self-eq0}

pub returns : goal.returns
returns c = λ list are. (
    let t = c.args.self.now in
    let x = c.args.stretch.now in
    let at : ((t.count ≡ 0) × (c.if-self-eq0.base ≡ x.start)) ⊎ ((t.count ≡ 0 → ⊥) × (c.if-self-eq0.base ≡ t.base)) =
    elim c.if-self-eq0.branch [
      | then-self-eq0 w ↦ inl (w.if-self-eq0.true, w.base-is)
      | else-self-eq0 w ↦ inr (w.if-self-eq0.false, w.base-is)
    ] in
    starts_more t list x are c.saturating_add-self.result c.if-self-eq0.base c.max-self.result at c.saturating_add-self.ensures
    (c.max-self.ensures ∙ ap (λ n. max n t.greatest) c.saturating_sub.ensures) (omega arith))
