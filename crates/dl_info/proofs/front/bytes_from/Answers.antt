use Rattle.std.proofs.lemmas.List.{take_rest}
use Rattle.dl_info.proofs.FrontLemmas.{drop_least}
use Rattle.dl_info.proofs.front.bytes_from.Goals as goal

pub returns : goal.returns
returns c =
    rw (take_rest c.args.section.now c.min-start.result) (drop_least c.args.offset c.args.section.now _ c.min-start.ensures)
