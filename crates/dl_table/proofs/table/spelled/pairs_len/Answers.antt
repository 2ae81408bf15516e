use Rattle.std.proofs.Common.{arith}
use Rattle.dl_table.specs.Written.{pair_bytes}
use Rattle.dl_table.proofs.SpelledLemmas.{parts_end}
use Rattle.dl_table.proofs.table.spelled.pairs_len.Goals as goal

pub returns : goal.returns
returns c =
    let none = parts_end pair_bytes c.args.pairs.now c.loop-pair.pair-index c.loop-pair-test.false in
    omega arith
