use Rattle.std.proofs.Common.{◌≡◌, ◌∙◌, Some, Err, ap, arith, inl, length, refl, sym}
use Rattle.dl_sections.specs.declared.options.TheConstants.{SECTION_LIMIT}
use Rattle.dl_open.specs.Tables.{bytes_of, stream_of}
use Rattle.dl_open.proofs.BlameLemmas.{of_file, reading_reads}
use Rattle.dl_open.proofs.ReaderLemmas.{all_read, keeping_refused, kept_of_all, line_whole, reader_known, reader_stream, reader_told, stops_at, stops_known}
use Rattle.dl_open.proofs.object_part.kept_bytes.Goals as goal

pub returns-in-Err-clause-kept : goal.returns-in-Err-clause-kept
returns-in-Err-clause-kept g c source content gives =
    let fails = g.S.ReadAt.fails_with source in
    let named = reader_stream {S = g.row.S.Denot} g.S.ReadAt.all_bytes g.S.ReadAt.fails_with fails c.args.line.now content gives
    ∙ sym c.stream_name-stream.ensures in
    let e = c.in-Err.ensures.ran in
    inl (
      c.in-Err.fault,
      stops_known (g.M.Memory.refuses c.args.memory.now) SECTION_LIMIT (Some (bytes_of content)) _ e.0 c.in-Err.fault
          (reader_known {S = g.row.S.Denot} g.S.ReadAt.all_bytes g.S.ReadAt.fails_with fails c.args.line.now content _ e.0 gives e.1) e.2,
      stops_at fails c.args.path.now (stream_of content) c.stream_name-stream.result c.last_fault.result c.in-Err.fault
          c.at.result named (λ read. rw c.last_fault.ensures (reader_told {S = g.row.S.Denot} g.S.ReadAt.all_bytes
          g.S.ReadAt.fails_with fails c.args.line.now c.read_strings.new.input content gives c.read_strings.ensures.blames
          (c.in-Err.is ∙ ap Err read))) c.at.ensures,
    )

pub returns-clause-kept : goal.returns-clause-kept
returns-clause-kept g c source content gives =
    let fails = g.S.ReadAt.fails_with source in
    let e = c.in-Ok.ensures.ran in
    let whole = all_read (bytes_of content) _ e.0
    (reader_known {S = g.row.S.Denot} g.S.ReadAt.all_bytes g.S.ReadAt.fails_with fails c.args.line.now content _ e.0 gives e.1) e.2.2 in
    keeping_refused (g.M.Memory.refuses c.args.memory.now) fails c.args.path.now c.args.dialect c.args.part.now content _ e.0 _ _ _ whole e.2.0
    c.as_mut_slice.ensures.value c.as_slice.ensures.value
    c.in-Err-keep_section.ensures.memory (refl, refl)

pub returns-in-Ok-keep_section-clause-kept : goal.returns-in-Ok-keep_section-clause-kept
returns-in-Ok-keep_section-clause-kept g c source content gives =
    let fails = g.S.ReadAt.fails_with source in
    let e = c.in-Ok.ensures.ran in
    let whole = all_read (bytes_of content) _ e.0
    (reader_known {S = g.row.S.Denot} g.S.ReadAt.all_bytes g.S.ReadAt.fails_with fails c.args.line.now content _ e.0 gives e.1) e.2.2 in
    let same : length c.keep_section.new.bytes ≡ length c.as_mut_slice.result.now = omega arith in
    let long : c.in-Ok.bytes.len ≡ length c.in-Ok.bytes.items = omega (arith, c.in-Ok.bytes.ok.0) in (
      kept_of_all c.args.dialect c.args.part.now.places.items c.as_slice.result.now c.args.part.now.section content
          c.in-Ok.bytes.items e.0 c.as_mut_slice.result.now c.keep_section.new.bytes c.in-Ok.bytes.len whole e.2.0
          c.as_mut_slice.ensures.value c.as_slice.ensures.value same long c.in-Ok-keep_section.ensures.kept,
      line_whole {S = g.row.S.Denot} g.S.ReadAt.all_bytes g.S.ReadAt.fails_with fails c.args.line.now c.read_strings.new.input
          content gives c.read_strings.ensures.blames c.in-Ok.ensures.over,
    )

pub returns-in-Err-clause-blames : goal.returns-in-Err-clause-blames
returns-in-Err-clause-blames g c =
    of_file c.args.path.now c.stream_name-stream.result c.last_fault.result c.in-Err.fault c.at.result
    (reading_reads (g.M.Memory.refuses c.args.memory.now) SECTION_LIMIT c.in-Err.ensures.ran.0 c.in-Err.fault
    c.in-Err.ensures.ran.2) c.at.ensures
