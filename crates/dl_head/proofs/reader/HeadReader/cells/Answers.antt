use Rattle.std.proofs.Common.{◌^◌, ◌-◌, ◌∙◌, sym, ap, min, ℕ, arith}
use Rattle.dl_head.proofs.HeaderGiven.{made_cells, held_so_far}
use Rattle.dl_head.proofs.reader.HeadReader.cells.Goals as goal

pub returns-in-Some : goal.returns-in-Some
returns-in-Some c b s = c.cells.ensures ∙ ap (λ (n : ℕ). min n (2 ^ 64 - 1))
    (sym (made_cells c.args.self.now b _ s c.in-Some.is))

pub returns-in-None : goal.returns-in-None
returns-in-None c b s = let held = held_so_far c.args.self.now b s c.in-None.is in
    omega (
      arith,
      c.cells-in-None.ensures,
      c.cells-in-None-2.ensures,
      c.cells-in-None-3.ensures,
      c.saturating_add.ensures,
      c.saturating_add-in-None.ensures,
      held,
    )
