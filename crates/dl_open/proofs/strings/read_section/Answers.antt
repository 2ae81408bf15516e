use Rattle.dl_open.specs.declared.strings.TheConstants.{STRINGS_LIMIT}
use Rattle.dl_open.proofs.BlameLemmas.{of_file, reading_reads}
use Rattle.dl_open.proofs.ReaderLemmas.{section_held, section_stops}
use Rattle.dl_open.proofs.strings.read_section.Goals as goal

pub returns-clause-held : goal.returns-clause-held
returns-clause-held g c source content given =
    let fails = g.S.ReadAt.fails_with source in
    section_stops {S = g.row.S.Denot} (g.M.Memory.refuses c.args.memory.now) g.S.ReadAt.all_bytes g.S.ReadAt.fails_with fails c.args.path.now c.args.section
    c.in-Some.section c.read_strings.new.input content c.stream_name-stream.result _ c.in-Err.fault c.at.result c.in-Some.is
    given c.stream_name-stream.ensures c.in-Err.ensures.ran c.read_strings.ensures.blames
    c.in-Err.is (rw c.last_fault.ensures at c.at.ensures)

pub returns-clause-blames : goal.returns-clause-blames
returns-clause-blames g c =
    of_file c.args.path.now c.stream_name-stream.result c.last_fault.result c.in-Err.fault c.at.result
    (reading_reads (g.M.Memory.refuses c.args.memory.now) STRINGS_LIMIT c.in-Err.ensures.ran.0 c.in-Err.fault
    c.in-Err.ensures.ran.2) c.at.ensures

pub returns-in-Ok-clause-held : goal.returns-in-Ok-clause-held
returns-in-Ok-clause-held g c source content given =
    section_held {S = g.row.S.Denot} g.S.ReadAt.all_bytes g.S.ReadAt.fails_with (g.S.ReadAt.fails_with source) c.args.section
    c.in-Some.section c.read_strings.new.input content c.in-Ok.bytes.items c.in-Some.is given c.in-Ok.ensures.ran
    c.read_strings.ensures.blames c.in-Ok.ensures.over
