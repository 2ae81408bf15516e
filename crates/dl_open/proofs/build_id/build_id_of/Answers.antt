use Rattle.std.proofs.Common.{subst, sym}
use Rattle.dl_elf.specs.Found.{Found}
use Rattle.dl_elf.specs.declared.name.SectionName.TheVariants.{BuildIdNote}
use Rattle.dl_open.proofs.build_id.build_id_of.Goals as goal

pub returns : goal.returns
returns g c f known short =
    let e = c.in_ok-elf.elf in (
      e,
      sym (c.in_ok-elf.ensures.answer f known short),
      c.get-note.result,
      subst (Found e f BuildIdNote) (sym c.get-note.ensures)
          (c.in_ok-sections.ensures.found f known short BuildIdNote),
      c.in_ok-read_build_id.ensures.told f known short,
    )
