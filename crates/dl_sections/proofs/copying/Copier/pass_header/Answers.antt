use Rattle.dl_emit.specs.Writing.{WritesUnitHeader}
use Rattle.dl_sections.proofs.Names.{ap, arith, EmitFault, Err, header_bytes, program_len, subst}
use Rattle.dl_sections.proofs.CopierLemmas.{all_passed, part_passed}
use Rattle.dl_sections.proofs.copying.Copier.pass_header.Goals as goal

pub returns-in-Ok-clause-printed : goal.returns-in-Ok-clause-printed
returns-in-Ok-clause-printed g c rows grown accepted =
    let h = c.args.header.now in
    let header = header_bytes c.args.self.now.program.order h (program_len h.params rows) in
    let written = c.in-Ok.ensures.written rows grown in
    let flushed = c.flush.new.self in
    let room = c.if-out.false in
    let out = c.out-out.ensures in (
      accepted,
      λ start text has. all_passed start _ text header flushed (c.in_ok-flush.ensures.printed start text has)
          c.in_ok-flush.ensures.empty _ c.count.new.self c.in-Ok.len written.1 written.2 c.count.ensures.pending
          (c.count.ensures.out (omega arith)),
    )

pub returns-in-Err-Write-clause-printed : goal.returns-in-Err-Write-clause-printed
returns-in-Err-Write-clause-printed g c rows grown accepted =
    let h = c.args.header.now in
    let header = header_bytes c.args.self.now.program.order h (program_len h.params rows) in
    let written = subst (λ (f : EmitFault). WritesUnitHeader c.args.self.now.program.order h rows
    (g.W.Write.contents c.flush.new.output) (g.W.Write.contents c.write_header.new.output) (Err f))
    c.in-Err-Write.field-0-is (c.in-Err-Write.ensures.written rows grown) in
    let flushed = c.flush.new.self in (
      accepted,
      λ start text has. rw c.out-out.ensures (part_passed start _ text header flushed
          (c.in_ok-flush.ensures.printed start text has) c.in_ok-flush.ensures.empty _ c.in-Err-Write.part written.1
          written.2),
    )

pub returns-in-Err-Write-clause-blames_writer : goal.returns-in-Err-Write-clause-blames_writer
returns-in-Err-Write-clause-blames_writer g c small =
    c.in-Err-Write.ensures.blames c.in-Err-Write.part (ap (λ (f : EmitFault). Err f) c.in-Err-Write.field-0-is)
