use Rattle.std.proofs.Common.{◌++◌, List, ap, sym, ◌∙◌, true≢false}
use Rattle.dl_buffers.specs.UnitCalls.{written_over}
use Rattle.dl_source_buffers.specs.declared.source_files.SourceRecord.{SourceRecord}
use Rattle.dl_source_buffers.specs.SourceCalls.{count_told}
use Rattle.dl_source_buffers.specs.SourceRooms.{file_with}
use Rattle.dl_source_buffers.proofs.SourceLemmas.{records_of_none, records_of_some}
use Rattle.dl_source_buffers.proofs.source_files.put_file.Goals as goal

pub returns-then-is_empty-clause-written : goal.returns-then-is_empty-clause-written
returns-then-is_empty-clause-written c first items is at =
    let f = file_with c.args.path.now c.args.totals.now in
    c.add.ensures.written first items is at
    ∙ ap (λ (l : List SourceRecord). written_over first (items ++ l))
    (c.from_ref.ensures.value ∙ sym (records_of_none c.args.path_begin f (c.is_empty.ensures.0 c.if-is_empty.true)))

pub returns-then-is_empty-clause-count : goal.returns-then-is_empty-clause-count
returns-then-is_empty-clause-count c items at =
    let f = file_with c.args.path.now c.args.totals.now in
    c.add.ensures.count items at
    ∙ ap (λ (l : List SourceRecord). count_told (items ++ l))
    (c.from_ref.ensures.value ∙ sym (records_of_none c.args.path_begin f (c.is_empty.ensures.0 c.if-is_empty.true)))

pub returns-else-is_empty-clause-written : goal.returns-else-is_empty-clause-written
returns-else-is_empty-clause-written c first items is at =
    let f = file_with c.args.path.now c.args.totals.now in
    c.put_sums.ensures.written first items is at
    ∙ ap (λ (l : List SourceRecord). written_over first (items ++ l))
    (sym (records_of_some c.args.path_begin f (λ none. true≢false (sym (c.is_empty.ensures.1 none) ∙ c.if-is_empty.false))))

pub returns-else-is_empty-clause-count : goal.returns-else-is_empty-clause-count
returns-else-is_empty-clause-count c items at =
    let f = file_with c.args.path.now c.args.totals.now in
    c.put_sums.ensures.count items at
    ∙ ap (λ (l : List SourceRecord). count_told (items ++ l))
    (sym (records_of_some c.args.path_begin f (λ none. true≢false (sym (c.is_empty.ensures.1 none) ∙ c.if-is_empty.false))))
