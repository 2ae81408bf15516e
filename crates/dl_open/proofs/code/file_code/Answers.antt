use Rattle.dl_open.proofs.CodeLemmas.{ranges_told}
use Rattle.dl_open.proofs.code.file_code.Goals as goal

pub returns-in-Ok : goal.returns-in-Ok
returns-in-Ok g c f known short =
    ranges_told (g.M.Memory.refuses c.args.memory.now) (g.S.ReadAt.fails_with c.args.file.now) f c.in-Ok.code c.with_ranges.result
    (c.in-Ok.ensures.code f known short) c.with_ranges.ensures.ranges c.with_ranges.ensures.live c.with_ranges.ensures.memory
