use Rattle.std.proofs.Common.{refl}
use Rattle.dl_open.specs.declared.fault.FileFault.TheVariants.{Elf}
use Rattle.dl_open.proofs.NotReadLemmas.{refuses}
use Rattle.dl_open.proofs.named.opened.Goals as goal

pub returns-in-Err-clause-opens : goal.returns-in-Err-clause-opens
returns-in-Err-clause-opens g c f known short =
    let fault = c.in-Err.fault in
    let opened = c.open_line_file in (
      Elf fault,
      refuses {S = g.row.S.Denot} (g.M.Memory.refuses c.args.memory.now) g.S.ReadAt.all_bytes g.S.ReadAt.fails_with (g.S.ReadAt.fails_with c.args.file.now) f c.args.wanted
          opened.result fault c.in-Err.is (opened.ensures.opens f known short) opened.ensures.read (opened.ensures.most f known short),
      (refl, refl),
    )
