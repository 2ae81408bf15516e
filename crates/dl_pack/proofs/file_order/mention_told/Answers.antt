use Rattle.std.proofs.Common.{arith}
use Rattle.dl_pack.proofs.FaultLemmas.{unnamed_here}
use Rattle.dl_pack.proofs.file_order.mention_told.Goals as goal

pub returns-then-told-count-clause-fails : goal.returns-then-told-count-clause-fails
returns-then-told-count-clause-fails c =
    unnamed_here c.args.stretch.now c.in-Some.told _ c.in-Some.is (omega (arith, c.count.ensures, c.if-told-count.true))
