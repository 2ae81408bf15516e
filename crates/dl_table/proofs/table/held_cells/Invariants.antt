use Rattle.std.proofs.Common.{◌≡◌, ◌-◌, ◌^◌, min, take}
use Rattle.std.specs.List.{sum_by}
use Rattle.dl_table.specs.Held.{cells_held}
use Rattle.dl_table.proofs.table.held_cells.Given as goal

abbrev pub invariant-loop-held : goal.invariant-loop-held
invariant-loop-held l = l.cells ≡ min (sum_by cells_held (take l.held-index l.values)) (2 ^ 64 - 1)
