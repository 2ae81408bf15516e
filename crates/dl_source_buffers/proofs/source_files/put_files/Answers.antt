use Rattle.std.proofs.Common.{ap, ◌∙◌, ◌++◌, List, ℕ}
use Rattle.std.specs.Map.Iter.{deref_pair}
use Rattle.std.proofs.lemmas.Map.Iter.{rest_more}
use Rattle.dl_buffers.specs.UnitCalls.{written_over}
use Rattle.dl_source_buffers.specs.SourceCalls.{count_told, file_records}
use Rattle.dl_source_buffers.specs.SourceRooms.{file_with}
use Rattle.dl_source_buffers.proofs.SourceLemmas.{Entry, all_counted, all_joined, all_paths, all_sources, written_more, written_none}
use Rattle.dl_source_buffers.proofs.source_files.put_files.Goals as goal

pub loop-path-init : goal.loop-path-init
loop-path-init c =
    written_none c.args.table.now.paths.entries c.into_iter-path-iterator.result c.args.sources.now c.args.paths.now
    c.into_iter-path-iterator.ensures.into_iter_gives.0

pub loop-path-preserved : goal.loop-path-preserved
loop-path-preserved c =
    let l = c.loop-path in
    let e : Entry = (c.in-Some.path.now, c.in-Some.totals.now) in
    let text = c.as_slice-text.ensures.value in
    written_more c.args.table.now.paths.entries l.path-iterator c.args.sources.now l.sources l.number c.args.paths.now l.paths l.len
    l.invariant e c.next.new.self
    (rest_more deref_pair l.path-iterator c.next.new.self c.next.result (c.in-Some.path, c.in-Some.totals) c.in-Some.is
    c.next.ensures.steps)
    c.put_file-number.new.room c.put_file-number.result c.add-len.new.room c.add-len.result
    (λ first items is at. c.put_file-number.ensures.written first items is at
    ∙ ap (λ (p : List ℕ). written_over first (items ++ file_records l.len (file_with p e.1))) text)
    (λ items at. c.put_file-number.ensures.count items at
    ∙ ap (λ (p : List ℕ). count_told (items ++ file_records l.len (file_with p e.1))) text)
    (λ first before is at. c.add-len.ensures.written first before is at
    ∙ ap (λ (p : List ℕ). written_over first (before ++ p)) text)
    (λ before at. c.add-len.ensures.count before at ∙ ap (λ (p : List ℕ). count_told (before ++ p)) text)

pub returns-clause-sources : goal.returns-clause-sources
returns-clause-sources c =
    let l = c.loop-path in
    all_sources c.args.table.now.paths.entries l.path-iterator c.args.sources.now l.sources l.number c.args.paths.now l.paths l.len
    l.invariant c.in-None.ensures.steps.0

pub returns-clause-count : goal.returns-clause-count
returns-clause-count c =
    let l = c.loop-path in
    all_counted c.args.table.now.paths.entries l.path-iterator c.args.sources.now l.sources l.number c.args.paths.now l.paths l.len
    l.invariant c.in-None.ensures.steps.0

pub returns-clause-paths : goal.returns-clause-paths
returns-clause-paths c =
    let l = c.loop-path in
    all_paths c.args.table.now.paths.entries l.path-iterator c.args.sources.now l.sources l.number c.args.paths.now l.paths l.len
    l.invariant c.in-None.ensures.steps.0

pub returns-clause-paths_len : goal.returns-clause-paths_len
returns-clause-paths_len c =
    let l = c.loop-path in
    all_joined c.args.table.now.paths.entries l.path-iterator c.args.sources.now l.sources l.number c.args.paths.now l.paths l.len
    l.invariant c.in-None.ensures.steps.0
