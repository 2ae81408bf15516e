use Rattle.std.proofs.Common.{arith}
use Rattle.dl_table.proofs.BuildLemmas.{none_zero}
use Rattle.dl_table.proofs.table.building.is_of_form.Goals as goal

pub returns-then-eq : goal.returns-then-eq
returns-then-eq c = let text = none_zero c.in-Text.bytes.now in grind (arith, c.contains.ensures.value)
