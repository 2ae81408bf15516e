use Rattle.std.proofs.Common.{ap, ◌∙◌}
use Rattle.std.proofs.lemmas.List.{take_rest}
use Rattle.dl_zlib.specs.Zlib.{sums}
use Rattle.dl_zlib.proofs.AdlerLemmas.{sums-front}
use Rattle.dl_zlib.proofs.adler.Adler.add.Goals as goal

pub loop-rest-preserved : goal.loop-rest-preserved
loop-rest-preserved c =
    let new = c.add_turn-adler.result in
    ap (sums new.low new.high) (take_rest c.loop-rest.rest.now c.min-len.result)
    ∙ sums-front c.loop-rest.adler.low c.loop-rest.adler.high new.low new.high c.min-len.result c.loop-rest.rest.now
    c.add_turn-adler.ensures
    ∙ c.loop-rest.invariant
