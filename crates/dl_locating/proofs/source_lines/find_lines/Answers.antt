use Rattle.std.proofs.Common.{◌∙◌, [], Err, None, ap, inl, inr, map, refl, subst, sym}
use Rattle.std.proofs.KnownBytes.{Consumes-nil, Keeps-refl}
use Rattle.std.proofs.lemmas.Result.{err_from_is_err_and}
use Rattle.dl_sections.proofs.BlameLemmas.{blames_where}
use Rattle.dl_locating.specs.SourceWords.{AreAsked, LinesStop}
use Rattle.dl_locating.specs.WithTable.{BlamesTable, TableRead, TableTexts}
use Rattle.dl_locating.specs.declared.with_table.Wish.TheVariants.{Lines}
use Rattle.dl_locating.proofs.BlameLemmas.{located_read, located_writer, no_read}
use Rattle.dl_locating.proofs.LineWordLemmas.{lines_reads, lines_writer, none_named, some_named}
use Rattle.dl_locating.proofs.WordsLemmas.{now}
use Rattle.dl_locating.proofs.source_lines.find_lines.Goals as goal

pub returns-then-is_none-clause-found : goal.returns-then-is_none-clause-found
returns-then-is_none-clause-found g c = (
  [],
  Consumes-nil _,
  inl (_, inl (none_named c.args.words.now.file c.is_none.result c.is_none.ensures c.if-is_none.true, refl), (refl, refl, Keeps-refl _)),
)

pub returns-in_err-wanted-clause-found : goal.returns-in_err-wanted-clause-found
returns-in_err-wanted-clause-found g c =
    let p = err_from_is_err_and c.from_residual.result c.from_residual.ensures.1 in (
      [],
      Consumes-nil _,
      inl (
        c.in_err-wanted.field-0.0,
        inr (subst (λ items. LinesStop (g.M.Memory.refuses c.args.memory.now) (map now items) c.in_err-wanted.field-0.0)
            c.as_slice.ensures.value c.in_err-wanted.ensures.stops),
        (p.1 ∙ ap Err p.2, refl, Keeps-refl _),
      ),
    )

pub returns-clause-found : goal.returns-clause-found
returns-clause-found g c =
    let e = c.ask_table-answer.ensures.read in (
      e.0,
      e.1,
      inr (
        c.as_slice-2.result,
        subst (λ items. AreAsked (map now items) c.as_slice-2.result.now) c.as_slice.ensures.value
            (subst (λ lines. AreAsked (map now c.as_slice.result.now) lines) (sym c.as_slice-2.ensures.value) c.in_ok-wanted.ensures.wanted),
        c.ask_table-answer.result,
        some_named c.args.words.now.file c.is_none.result c.is_none.ensures c.if-is_none.false,
        subst (λ (t : TableTexts). TableRead (g.M.Memory.refuses c.args.memory.now) (g.F.FileSource.held c.args.files.now)
            (g.F.FileSource.fails_with c.args.files.now) t (Lines c.as_slice-2.result c.args.words.now.exact c.args.words.now.stop) e.0
            (g.R.Read.remaining c.ask_table-answer.new.input) (g.W.Write.contents c.args.output.now)
            (g.W.Write.contents c.ask_table-answer.new.output) c.ask_table-answer.result) c.table.ensures e.2,
        c.by_answer.ensures,
      ),
    )

pub returns-then-is_none-clause-blames : goal.returns-then-is_none-clause-blames
returns-then-is_none-clause-blames g c first is = (is, λ e. absurd (let e = e.1.0 in cc))

pub returns-in_err-wanted-clause-blames : goal.returns-in_err-wanted-clause-blames
returns-in_err-wanted-clause-blames g c first is =
    let p = err_from_is_err_and c.from_residual.result c.from_residual.ensures.1 in (
      is,
      λ e. absurd (no_read (Err c.in_err-wanted.field-0.0) (lines_reads (g.M.Memory.refuses c.args.memory.now) _ c.in_err-wanted.field-0.0
          c.in_err-wanted.ensures.stops) (sym (p.1 ∙ ap Err p.2) ∙ e.1.0)),
    )

pub returns-in_err-wanted-clause-blames_writer : goal.returns-in_err-wanted-clause-blames_writer
returns-in_err-wanted-clause-blames_writer g c =
    let p = err_from_is_err_and c.from_residual.result c.from_residual.ensures.1 in
    rw (p.1, p.2) (lines_writer g.W.Destination.fails (g.M.Memory.refuses c.args.memory.now) _ c.in_err-wanted.field-0.0
    c.in_err-wanted.ensures.stops)

pub returns-clause-blames : goal.returns-clause-blames
returns-clause-blames g c =
    blames_where c.ask_table-answer.ensures.blames (λ e.
    subst (λ (t : TableTexts). BlamesTable (g.M.Memory.refuses c.args.memory.now) (g.F.FileSource.held c.args.files.now)
    (g.F.FileSource.fails_with c.args.files.now) t c.ask_table-answer.result) (sym c.table.ensures)
    (e.0, (located_read c.ask_table-answer.result None (sym c.by_answer.ensures ∙ e.1.0), e.1.1)))

pub returns-clause-blames_writer : goal.returns-clause-blames_writer
returns-clause-blames_writer g c =
    rw c.by_answer.ensures (located_writer g.W.Destination.fails c.ask_table-answer.result None c.ask_table-answer.ensures.blames_writer)
