use Rattle.std.proofs.Common.{◌∙◌, ◌↔◌, ◌++◌, IsTrue, ℕ, List, Option, Ok, Err, inl, inr, ⊎_elim, ap, subst, sym}
use Rattle.std.specs.Prelude.{IfSome}
use Rattle.dl_forms.specs.Names.{Names}
use Rattle.dl_file.specs.LineReader.{line_remaining}
use Rattle.dl_open.specs.Stops.{StopsAs}
use Rattle.dl_open.specs.Tables.{StopsNaming, stream_of}
use Rattle.dl_file.specs.LineReader.{line_fault}
use Rattle.dl_open.proofs.NamedLemmas.{read_named, unread_named}
use Rattle.dl_open.proofs.BlameLemmas.{naming_reads, of_file}
use Rattle.dl_open.proofs.ReaderLemmas.{line_whole, reader_bytes, reader_stream, reader_told, stops_at}
use Rattle.dl_open.proofs.named.is_named.Goals as goal

pub returns-in-Err-Read-clause-told : goal.returns-in-Err-Read-clause-told
returns-in-Err-Read-clause-told g c source content gives =
    let fails = g.S.ReadAt.fails_with source in
    let line = c.args.line.now in
    let named = reader_stream {S = g.row.S.Denot} g.S.ReadAt.all_bytes g.S.ReadAt.fails_with fails line content gives
    ∙ sym c.stream_name-stream.ensures in
    unread_named fails c.args.dialect content c.stream_name-stream.result (line_fault c.names_str.new.input) named
    (sym c.is_some.ensures ∙ c.if-is_some.true)
    (reader_told {S = g.row.S.Denot} g.S.ReadAt.all_bytes g.S.ReadAt.fails_with fails line c.names_str.new.input content gives
    c.names_str.ensures.blames (c.in-Err-Read.is ∙ ap Err c.in-Err-Read.field-0-is))

pub returns-in-Err-clause-told : goal.returns-in-Err-clause-told
returns-in-Err-clause-told g c source content gives =
    let fails = g.S.ReadAt.fails_with source in
    let line = c.args.line.now in
    let named = reader_stream {S = g.row.S.Denot} g.S.ReadAt.all_bytes g.S.ReadAt.fails_with fails line content gives
    ∙ sym c.stream_name-stream.ensures in
    let at : StopsAs c.args.path.now c.stream_name-stream.result c.last_fault.result c.in-Err.fault c.at.result =
    rw (← c.in-Err.fault-is) c.at.ensures in (
      c.in-Err.fault,
      subst (λ (known : Option (List ℕ)). StopsNaming c.args.dialect known c.in-Err.fault)
          (reader_bytes {S = g.row.S.Denot} g.S.ReadAt.all_bytes g.S.ReadAt.fails_with fails line content gives) c.in-Err.ensures.told,
      stops_at fails c.args.path.now (stream_of content) c.stream_name-stream.result c.last_fault.result c.in-Err.fault
          c.at.result named (λ read. rw c.last_fault.ensures (reader_told {S = g.row.S.Denot} g.S.ReadAt.all_bytes
          g.S.ReadAt.fails_with fails line c.names_str.new.input content gives c.names_str.ensures.blames (c.in-Err.is ∙ ap Err read))) at,
    )

pub returns-in-Err-clause-blames : goal.returns-in-Err-clause-blames
returns-in-Err-clause-blames g c =
    let at : StopsAs c.args.path.now c.stream_name-stream.result c.last_fault.result c.in-Err.fault c.at.result =
    rw (← c.in-Err.fault-is) c.at.ensures in
    of_file c.args.path.now c.stream_name-stream.result c.last_fault.result c.in-Err.fault c.at.result
    (naming_reads c.args.dialect (line_remaining g.S.ReadAt.all_bytes c.args.line.now) c.in-Err.fault c.in-Err.ensures.told) at

pub returns-in-Ok-clause-told : goal.returns-in-Ok-clause-told
returns-in-Ok-clause-told g c source content gives =
    let fails = g.S.ReadAt.fails_with source in
    let line = c.args.line.now in
    let dialect = c.args.dialect in
    let names = c.in-Ok.names in
    let known = reader_bytes {S = g.row.S.Denot} g.S.ReadAt.all_bytes g.S.ReadAt.fails_with fails line content gives in
    read_named fails dialect content names
    (subst (λ (k : Option (List ℕ)). IfSome k (λ bytes. IsTrue names ↔ Names dialect bytes)) known c.in-Ok.ensures.told)
    (λ none. ⊎_elim
    (λ over. inl (line_whole {S = g.row.S.Denot} g.S.ReadAt.all_bytes g.S.ReadAt.fails_with fails line c.names_str.new.input content gives
    c.names_str.ensures.blames over))
    (λ settled. inr (subst (λ (k : Option (List ℕ)). IfSome k (λ bytes. (rest : List ℕ) → Names dialect (bytes ++ rest) → ⊥)) known settled))
    (c.in-Ok.ensures.settled (ap Ok none)))
