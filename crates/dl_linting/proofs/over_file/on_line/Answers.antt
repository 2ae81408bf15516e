use Rattle.std.proofs.Common.{◌∙◌, Err, ap, refl, sym}
use Rattle.dl_open.specs.Tables.{stream_of}
use Rattle.dl_open.proofs.ReaderLemmas.{line_whole, reader_known, reader_stream, reader_told, stops_at}
use Rattle.dl_program.proofs.BlameLemmas.{at_blamed}
use Rattle.dl_linting.proofs.LintingLemmas.{told_table}
use Rattle.dl_linting.proofs.over_file.on_line.Goals as goal

pub returns-in-Err-clause-ran : goal.returns-in-Err-clause-ran
returns-in-Err-clause-ran g c source units t gives ordered whole untold =
    let fails = g.S.ReadAt.fails_with source in
    let named = reader_stream {S = g.row.S.Denot} g.S.ReadAt.all_bytes g.S.ReadAt.fails_with fails c.args.line.now t.line gives
    ∙ sym c.stream_name-stream.ensures in
    let does = c.in-Err.ensures.ran in
    told_table (g.M.Memory.refuses c.args.memory.now) _ _ _ _ t _ _ _ _ (g.D.DamageSink.hears c.args.damages.now c.lint_section.new.damages) _ _ _ _ _ _ (λ read.
    reader_known {S = g.row.S.Denot} g.S.ReadAt.all_bytes g.S.ReadAt.fails_with fails c.args.line.now t.line _ read gives) whole ordered refl
    c.requires (does.0, does.1, does.2 untold) (
      c.at.result,
      refl,
      stops_at fails c.args.path.now (stream_of t.line) c.stream_name-stream.result c.last_fault.result c.in-Err.fault
          c.at.result named (λ read. rw c.last_fault.ensures (reader_told {S = g.row.S.Denot} g.S.ReadAt.all_bytes
          g.S.ReadAt.fails_with fails c.args.line.now c.lint_section.new.input t.line gives c.lint_section.ensures.blames
          (untold, c.in-Err.is ∙ ap Err read))) c.at.ensures,
    )
    (λ read. line_whole {S = g.row.S.Denot} g.S.ReadAt.all_bytes g.S.ReadAt.fails_with fails c.args.line.now c.lint_section.new.input
    t.line gives c.lint_section.ensures.blames (c.in-Err.ensures.over untold read))

pub returns-in-Ok-clause-ran : goal.returns-in-Ok-clause-ran
returns-in-Ok-clause-ran g c source units t gives ordered whole untold =
    let fails = g.S.ReadAt.fails_with source in
    let does = c.in-Ok.ensures.ran in
    told_table (g.M.Memory.refuses c.args.memory.now) _ fails _ _ t _ _ _ _ (g.D.DamageSink.hears c.args.damages.now c.lint_section.new.damages) _ _ _ _ _ _ (λ read.
    reader_known {S = g.row.S.Denot} g.S.ReadAt.all_bytes g.S.ReadAt.fails_with fails c.args.line.now t.line _ read gives)
    whole ordered refl c.requires (does.0, does.1, does.2 untold) refl
    (λ read. line_whole {S = g.row.S.Denot} g.S.ReadAt.all_bytes g.S.ReadAt.fails_with fails c.args.line.now c.lint_section.new.input
    t.line gives c.lint_section.ensures.blames (c.in-Ok.ensures.over untold read))

pub returns-in-Err-clause-blames : goal.returns-in-Err-clause-blames
returns-in-Err-clause-blames g c untold =
    at_blamed g.W.Destination.fails c.args.path.now c.stream_name-stream.result c.last_fault.result c.in-Err.fault c.at.result
    c.at.ensures (c.in-Err.ensures.blames_writer untold)
