use Rattle.dl_open.proofs.CodeLemmas.{code_told}
use Rattle.dl_open.proofs.code.code_of.Goals as goal

pub returns-in-Ok : goal.returns-in-Ok
returns-in-Ok g c f known short =
    code_told (g.M.Memory.refuses c.args.memory.now) (g.S.ReadAt.fails_with c.args.file.now) f c.in-Ok.code c.live_ranges.result
    (c.in-Ok.ensures.code f known short) c.live_ranges.ensures.live c.live_ranges.ensures.memory
