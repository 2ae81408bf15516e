use Rattle.std.proofs.Common.{[], Some, Ok, Err, ap, inl, inr, refl, sym, subst, ◌∙◌}
use Rattle.std.proofs.KnownBytes.{Consumes-nil, Keeps-refl}
use Rattle.std.proofs.lemmas.Result.{err_from_is_err_and}
use Rattle.dl_cmd.specs.Job.{addr_words_made}
use Rattle.dl_index_file.specs.Reading.{ReadFails}
use Rattle.std.specs.Prelude.{IfErr}
use Rattle.dl_locating.specs.Answering.{AnswersAsked, AsksOf}
use Rattle.dl_locating.specs.OverIndex.{IsNotOpened, MadeOf, location_in}
use Rattle.dl_sections.proofs.BlameLemmas.{blames_where}
use Rattle.dl_locating.proofs.BlameLemmas.{by_read, by_writer, no_read, no_run_reads, no_run_writer}
use Rattle.dl_locating.proofs.AnsweringLemmas.{not_opened}
use Rattle.dl_locating.proofs.over_index.in_index.Goals as goal

pub returns-then-not-suits_index-clause-located : goal.returns-then-not-suits_index-clause-located
returns-then-not-suits_index-clause-located g c = (
  [],
  Consumes-nil _,
  λ understood b known short. inl (sym c.suits_index.ensures ∙ c.if-not-suits_index.true, (refl, refl, Keeps-refl _)),
)

pub returns-in-Err-clause-located : goal.returns-in-Err-clause-located
returns-in-Err-clause-located g c = (
  [],
  Consumes-nil _,
  λ understood b known short. inr (inl (
    c.in-Err.fault,
    sym c.suits_index.ensures ∙ c.if-not-suits_index.false,
    subst (λ r. IfErr r (IsNotOpened (g.S.ReadAt.fails_with c.args.file.now) b)) c.in-Err.is
        (not_opened (g.S.ReadAt.fails_with c.args.file.now) b c.open_index.result (c.open_index.ensures.opens b known short)
        c.open_index.ensures.read),
    (refl, refl, Keeps-refl _),
  )),
)

pub returns-in_err-check_made_of-clause-located : goal.returns-in_err-check_made_of-clause-located
returns-in_err-check_made_of-clause-located g c =
    let p = err_from_is_err_and c.from_residual.result c.from_residual.ensures.1 in
    let w = addr_words_made c.args.words.now in (
      [],
      Consumes-nil _,
      λ understood b known short.
          let own = ap g.S.ReadAt.all_bytes c.in-Ok.ensures.source ∙ known in
          inr (inr (inl (
            c.in_err-check_made_of.field-0.0,
            sym c.suits_index.ensures ∙ c.if-not-suits_index.false,
            c.in-Ok.ensures.opens b known short,
            subst (λ id. MadeOf (g.F.FileSource.held c.args.files.now) (g.F.FileSource.fails_with c.args.files.now) w
                c.args.path id (Err c.in_err-check_made_of.field-0.0)) (c.build_id.ensures.id b own short)
                c.in_err-check_made_of.ensures.made,
            (p.1 ∙ ap Err p.2, refl, Keeps-refl _),
          ))),
    )

pub returns-clause-located : goal.returns-clause-located
returns-clause-located g c =
    let w = addr_words_made c.args.words.now in
    let e = c.answer_from.ensures.answers in (
      e.0,
      e.1,
      λ understood b known short.
          let own = ap g.S.ReadAt.all_bytes c.in-Ok.ensures.source ∙ known in
          inr (inr (inr (
            sym c.suits_index.ensures ∙ c.if-not-suits_index.false,
            c.in-Ok.ensures.opens b known short,
            subst (λ id. MadeOf (g.F.FileSource.held c.args.files.now) (g.F.FileSource.fails_with c.args.files.now) w
                c.args.path id (Ok tt)) (c.build_id.ensures.id b own short) c.in_ok-check_made_of.ensures.made,
            c.answer_from.result,
            c.located_by.ensures,
            λ whole. subst (λ s. AnswersAsked (g.M.Memory.refuses c.args.memory.now) w (location_in b) (ReadFails (Some b) (g.S.ReadAt.fails_with s)) (AsksOf b) e.0
                (g.R.Read.remaining c.answer_from.new.input) (g.W.Write.contents c.args.output.now)
                (g.W.Write.contents c.answer_from.new.output) c.answer_from.result) c.in-Ok.ensures.source
                (e.2 understood b own short whole),
          ))),
    )

pub returns-then-not-suits_index-clause-blames : goal.returns-then-not-suits_index-clause-blames
returns-then-not-suits_index-clause-blames g c first is = (is, λ e. absurd (let e = e.0 in cc))

pub returns-in-Err-clause-blames : goal.returns-in-Err-clause-blames
returns-in-Err-clause-blames g c first is = (is, λ e. absurd (let e = e.0 in cc))

pub returns-in_err-check_made_of-clause-blames : goal.returns-in_err-check_made_of-clause-blames
returns-in_err-check_made_of-clause-blames g c first is =
    let p = err_from_is_err_and c.from_residual.result c.from_residual.ensures.1 in (
      is,
      λ e. absurd (no_read (Err c.in_err-check_made_of.field-0.0) (no_run_reads c.in_err-check_made_of.field-0.0 c.in_err-check_made_of.ensures.runs)
          (sym (p.1 ∙ ap Err p.2) ∙ e.0)),
    )

pub returns-in_err-check_made_of-clause-blames_writer : goal.returns-in_err-check_made_of-clause-blames_writer
returns-in_err-check_made_of-clause-blames_writer g c =
    let p = err_from_is_err_and c.from_residual.result c.from_residual.ensures.1 in
    rw (p.1, p.2) (no_run_writer g.W.Destination.fails c.in_err-check_made_of.field-0.0 c.in_err-check_made_of.ensures.runs)

pub returns-clause-blames : goal.returns-clause-blames
returns-clause-blames g c =
    blames_where c.answer_from.ensures.blames (λ e.
    (by_read c.args.path c.answer_from.result (sym c.located_by.ensures ∙ e.0), e.1))

pub returns-clause-blames_writer : goal.returns-clause-blames_writer
returns-clause-blames_writer g c =
    rw c.located_by.ensures (by_writer g.W.Destination.fails c.args.path c.answer_from.result c.answer_from.ensures.blames_writer)
