use Rattle.std.proofs.Common.{◌*◌, ap, arith, ℕ}
use Rattle.dl_pack.proofs.GrowthLemmas.{few_bytes}
use Rattle.dl_pack.proofs.layout.place_after.Goals as goal

pub returns-clause-most : goal.returns-clause-most
returns-clause-most c = omega (
  arith,
  few_bytes c.args.count c.args.column.width,
  ap (λ (n : ℕ). c.args.count * n) c.size.ensures,
  c.saturating_mul.ensures,
  c.rounded_up.ensures.most,
  c.saturating_add.ensures,
)
