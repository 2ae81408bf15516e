use Rattle.std.proofs.Common.{inl, refl}
use Rattle.dl_file.specs.declared.line_file.Wanted.TheVariants.{LineSection}
use Rattle.dl_open.specs.declared.fault.FileFault.TheVariants.{Elf}
use Rattle.dl_open.proofs.NotReadLemmas.{refuses}
use Rattle.dl_open.proofs.not_read.in_file.Goals as goal

pub returns-in-Err : goal.returns-in-Err
returns-in-Err g c f known short =
    let fault = c.in-Err.field-0 in
    let opened = c.open_line_file in (
    inl (
      Elf fault,
      refuses {S = g.row.S.Denot} (g.M.Memory.refuses c.args.memory.now) g.S.ReadAt.all_bytes g.S.ReadAt.fails_with (g.S.ReadAt.fails_with c.args.file.now) f LineSection
          opened.result fault c.in-Err.is (opened.ensures.opens f known short) opened.ensures.read (opened.ensures.most f known short),
      refl,
    )
    )
