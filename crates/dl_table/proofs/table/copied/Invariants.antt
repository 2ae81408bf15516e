use Rattle.std.proofs.Common.{◌≡◌, take}
use Rattle.dl_table.specs.Sound.{AreContents}
use Rattle.dl_table.proofs.table.copied.Given as goal

abbrev pub invariant-loop-pair : goal.invariant-loop-pair
invariant-loop-pair g l = record { same : l.copy.items ≡ take l.pair-index l.pairs; contents : AreContents l.copy.items }
