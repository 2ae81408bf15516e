use Rattle.std.proofs.Common.{Some, arith, refl}
use Rattle.dl_buffers.specs.Calls.{dialect_of}
use Rattle.dl_buffers.proofs.CopyLemmas.{held_is, runs}
use Rattle.dl_buffers.proofs.copying.copy_in_memory.Goals as goal

pub returns-clause-copied : goal.returns-clause-copied
returns-clause-copied g c =
    let refuses = g.M.Memory.refuses c.args.memory.now in
    let v = c.copy-end.new.output.written.bytes in
    let ran = runs refuses c.dialect_of.result (dialect_of c.args.how) c.dialect_of.ensures c.args.section.now v
    c.new-held.result.written.bytes c.new-held.ensures (Some c.copy-end.new.input.now) c.copy-end.result c.copy-end.ensures.ran in (
      v,
      ran,
      held_is g.K.Refusing.refuses refuses (dialect_of c.args.how) c.args.section.now v c.copy-end.result c.whole.result ran
          c.copy-end.ensures.blames_writer c.whole.ensures.all c.whole.ensures.refused,
    )

pub returns-clause-read : goal.returns-clause-read
returns-clause-read g c = λ is.
    let told = (c.copy-end.ensures.blames c.copy-end.new.input (0, refl)).1 is in
    omega (arith, told.1.1, told.1.2)
