use Rattle.std.proofs.Common.{[], Err, ap, inl, inr, refl, sym, subst, ◌∙◌}
use Rattle.std.specs.Bool.{MatchBool}
use Rattle.std.proofs.KnownBytes.{Consumes-nil, Keeps-refl}
use Rattle.std.proofs.lemmas.Result.{err_from_is_err_and}
use Rattle.dl_cmd.specs.Job.{addr_words_made}
use Rattle.dl_index.specs.IsIndex.{HasMagic}
use Rattle.dl_locating.specs.Understood.{IsUnderstood}
use Rattle.dl_program.specs.declared.stop.Stop.TheVariants.{NotUnderstood}
use Rattle.dl_sections.proofs.BlameLemmas.{blames_where}
use Rattle.dl_locating.proofs.BlameLemmas.{no_read, words_reads, words_writer}
use Rattle.dl_locating.proofs.ReadsLemmas.{elf_file_wider, index_wider}
use Rattle.dl_locating.proofs.locating.in_file.Goals as goal

pub returns-then-not-suits_file-clause-located : goal.returns-then-not-suits_file-clause-located
returns-then-not-suits_file-clause-located g c = (
  [],
  Consumes-nil _,
  λ f known short. inl (NotUnderstood, inr (sym c.suits_file.ensures ∙ c.if-not-suits_file.true, refl), (refl, refl, Keeps-refl _)),
)

pub returns-in_err-understood-clause-located : goal.returns-in_err-understood-clause-located
returns-in_err-understood-clause-located g c =
    let p = err_from_is_err_and c.from_residual.result c.from_residual.ensures.1 in (
      [],
      Consumes-nil _,
      λ f known short. inl (
        c.in_err-understood.field-0.0,
        inl c.in_err-understood.ensures.stops,
        (p.1 ∙ ap Err p.2, refl, Keeps-refl _),
      ),
    )

pub returns-in-Ok-default-true-clause-located : goal.returns-in-Ok-default-true-clause-located
returns-in-Ok-default-true-clause-located g c =
    let w = addr_words_made c.args.words.now in
    let opened = c.in-Ok-default-true in
    let e = c.in_index.ensures.located in
    let u = c.in_ok-understood.ensures in
    let understood : IsUnderstood w c.in_ok-understood.understood = record {
      base = u.base;
      asked = u.asked;
      understood = u.understood;
    } in (
      e.0,
      e.1,
      λ f known short. inr (inr (inl (
        sym c.suits_file.ensures ∙ c.if-not-suits_file.false,
        subst (λ b. MatchBool b (HasMagic f) (¬ (HasMagic f))) opened.field-0-1-test (opened.ensures.magic f known short),
        index_wider (g.M.Memory.refuses c.args.memory.now) (g.F.File.ReadAt.fails_with opened.file)
            (g.F.FileSource.fails_with c.args.files.now c.args.path.now) opened.ensures.reads
            (g.F.FileSource.held c.args.files.now) (g.F.FileSource.fails_with c.args.files.now) c.args.path w f e.0 _ _ _ _
            (e.2 understood f (opened.ensures.bytes ∙ known) short),
      ))),
    )

pub returns-in-Ok-default-false-clause-located : goal.returns-in-Ok-default-false-clause-located
returns-in-Ok-default-false-clause-located g c =
    let w = addr_words_made c.args.words.now in
    let opened = c.in-Ok-default-false in
    let e = c.in_elf_file.ensures.located in
    let u = c.in_ok-understood.ensures in
    let understood : IsUnderstood w c.in_ok-understood.understood = record {
      base = u.base;
      asked = u.asked;
      understood = u.understood;
    } in (
      e.0,
      e.1,
      λ f known short. inr (inr (inr (
        sym c.suits_file.ensures ∙ c.if-not-suits_file.false,
        subst (λ b. MatchBool b (HasMagic f) (¬ (HasMagic f))) opened.field-0-1-test (opened.ensures.magic f known short),
        elf_file_wider (g.M.Memory.refuses c.args.memory.now) (g.F.File.ReadAt.fails_with opened.file)
            (g.F.FileSource.fails_with c.args.files.now c.args.path.now) opened.ensures.reads c.args.path w f e.0 _ _ _ _
            (e.2 understood f (opened.ensures.bytes ∙ known) short),
      ))),
    )

pub returns-then-not-suits_file-clause-blames : goal.returns-then-not-suits_file-clause-blames
returns-then-not-suits_file-clause-blames g c first is = (is, λ e. absurd (let e = e.0 in cc))

pub returns-in_err-understood-clause-blames : goal.returns-in_err-understood-clause-blames
returns-in_err-understood-clause-blames g c first is =
    let p = err_from_is_err_and c.from_residual.result c.from_residual.ensures.1 in (
      is,
      λ e. absurd (no_read (Err c.in_err-understood.field-0.0) (words_reads (g.M.Memory.refuses c.args.memory.now) (addr_words_made c.args.words.now)
          c.in_err-understood.field-0.0 c.in_err-understood.ensures.stops) (sym (p.1 ∙ ap Err p.2) ∙ e.0)),
    )

pub returns-in_err-understood-clause-blames_writer : goal.returns-in_err-understood-clause-blames_writer
returns-in_err-understood-clause-blames_writer g c =
    let p = err_from_is_err_and c.from_residual.result c.from_residual.ensures.1 in
    rw (p.1, p.2) (words_writer g.W.Destination.fails (g.M.Memory.refuses c.args.memory.now) (addr_words_made c.args.words.now)
    c.in_err-understood.field-0.0 c.in_err-understood.ensures.stops)

pub returns-in-Ok-default-true-clause-blames : goal.returns-in-Ok-default-true-clause-blames
returns-in-Ok-default-true-clause-blames g c = blames_where c.in_index.ensures.blames (λ e. (e.0, e.1))

pub returns-in-Ok-default-false-clause-blames : goal.returns-in-Ok-default-false-clause-blames
returns-in-Ok-default-false-clause-blames g c = blames_where c.in_elf_file.ensures.blames (λ e. (e.0, e.1))

pub returns-clause-blames : goal.returns-clause-blames
returns-clause-blames g c first is = (c.unanswered.ensures.reads first is, λ e. absurd (let e = e.0 in cc))
