use Rattle.std.proofs.lemmas.Result.{err_from_is_err_and}
use Rattle.std.proofs.Common.{subst}
use Rattle.std.specs.Io.KnownBytes.{Appends}
use Rattle.dl_print.specs.Output.{TellsOut}
use Rattle.dl_sections.specs.Commands.{strings_in}
use Rattle.dl_making.proofs.WritingLemmas.{lost_around, never_written_around, written_around}
use Rattle.dl_sections.proofs.BlameLemmas.{blames_where, same_answer}
use Rattle.dl_making.proofs.writing.write_index_around.Goals as goal

pub returns-in-Ok-clause-ran : goal.returns-in-Ok-clause-ran
returns-in-Ok-clause-ran g c =
    let read = c.in_ok-made.ensures.ran in
    let options = c.args.options.now in
    let old = g.W.Write.contents c.args.output.now in
    let new = g.W.Write.contents c.put_bytes.new.output in (
      read.0,
      read.1,
      written_around (g.M.Memory.refuses c.args.memory.now) options.dialect (strings_in options) c.args.table.now options.limit read.0
          (g.R.Read.remaining c.make_index_around.new.input) old new c.in_ok-made.made read.2
          (subst (Appends old new) c.as_slice.ensures.value c.in-Ok.ensures.written),
    )

pub returns-clause-ran : goal.returns-clause-ran
returns-clause-ran g c =
    let read = c.in_ok-made.ensures.ran in
    let options = c.args.options.now in
    let old = g.W.Write.contents c.args.output.now in
    let new = g.W.Write.contents c.put_bytes.new.output in (
      read.0,
      read.1,
      lost_around (g.M.Memory.refuses c.args.memory.now) options.dialect (strings_in options) c.args.table.now options.limit read.0
          (g.R.Read.remaining c.make_index_around.new.input) old new c.in_ok-made.made c.in-Err.lost read.2
          (subst (λ text. TellsOut old new text c.in-Err.lost) c.as_slice.ensures.value c.in-Err.ensures.written),
    )

pub returns-in_err-made-clause-blames : goal.returns-in_err-made-clause-blames
returns-in_err-made-clause-blames g c =
    let p = err_from_is_err_and c.from_residual.result c.from_residual.ensures.1 in
    rw (p.1, p.2) (blames_where c.in_err-made.ensures.blames (λ e. same_answer _ e))

pub returns-in-Ok-clause-blames : goal.returns-in-Ok-clause-blames
returns-in-Ok-clause-blames g c = blames_where c.in_ok-made.ensures.blames (λ e. absurd cc)

pub returns-clause-blames : goal.returns-clause-blames
returns-clause-blames g c = blames_where c.in_ok-made.ensures.blames (λ e. absurd cc)

pub returns-in_err-made-clause-blames_writer : goal.returns-in_err-made-clause-blames_writer
returns-in_err-made-clause-blames_writer g c =
    let p = err_from_is_err_and c.from_residual.result c.from_residual.ensures.1 in
    let options = c.args.options.now in
    let read = c.in_err-made.ensures.ran in
    rw (p.1, p.2) (never_written_around _ (g.M.Memory.refuses c.args.memory.now) options.dialect (strings_in options) c.args.table.now options.limit read.0
    (g.R.Read.remaining c.make_index_around.new.input) _ read.2)
