use Rattle.std.proofs.Common.{◌∙◌, [], ap, inl, inr, refl, sym, option_map}
use Rattle.std.proofs.KnownBytes.{Consumes-nil, Keeps-refl}
use Rattle.std.proofs.lemmas.Result.{err_from_is_err_and}
use Rattle.dl_cmd.specs.Job.{lint_words_made}
use Rattle.dl_sections.proofs.BlameLemmas.{blames_where}
use Rattle.dl_program.proofs.BlameLemmas.{over_writer}
use Rattle.dl_program.specs.Held.{section_seen}
use Rattle.dl_linting.proofs.LintingLemmas.{blamed_section, file_named, no_rule_read, no_rule_writer, not_understood, words_on_input}
use Rattle.dl_linting.proofs.LintingLemmas.{words_on_named}
use Rattle.dl_linting.proofs.job.tell_findings.Goals as goal

pub returns-then-not-are_sizes-clause-ran : goal.returns-then-not-are_sizes-clause-ran
returns-then-not-are_sizes-clause-ran g c = (
  [],
  Consumes-nil _,
  λ untold. inl (sym c.are_sizes.ensures ∙ c.if-not-are_sizes.true, ((refl, refl, Keeps-refl _), untold)),
)

pub returns-then-not-are_sizes-clause-blames : goal.returns-then-not-are_sizes-clause-blames
returns-then-not-are_sizes-clause-blames g c first is = (
  is,
  λ e. absurd (not_understood (g.M.Memory.refuses c.args.memory.now) (g.F.FileSource.held c.args.files.now)
      (g.F.FileSource.fails_with c.args.files.now) (lint_words_made c.args.words.now) e.1),
)

pub returns-in_err-rules-clause-ran : goal.returns-in_err-rules-clause-ran
returns-in_err-rules-clause-ran g c =
    let e = err_from_is_err_and c.from_residual.result c.from_residual.ensures.1 in (
      [],
      Consumes-nil _,
      λ untold. rw (e.1, e.2) (inr (
        sym c.are_sizes.ensures ∙ c.if-not-are_sizes.false,
        inl (_, c.in_err-rules.ensures.stops, ((refl, refl, Keeps-refl _), untold)),
      )),
    )

pub returns-in_err-rules-clause-blames : goal.returns-in_err-rules-clause-blames
returns-in_err-rules-clause-blames g c first is =
    let e = err_from_is_err_and c.from_residual.result c.from_residual.ensures.1 in (
      is,
      rw (e.1, e.2) (λ blamed. absurd (no_rule_read (g.M.Memory.refuses c.args.memory.now) (g.F.FileSource.held c.args.files.now)
          (g.F.FileSource.fails_with c.args.files.now) (lint_words_made c.args.words.now) _ c.in_err-rules.ensures.stops blamed.1)),
    )

pub returns-in_err-rules-clause-blames_writer : goal.returns-in_err-rules-clause-blames_writer
returns-in_err-rules-clause-blames_writer g c untold =
    let e = err_from_is_err_and c.from_residual.result c.from_residual.ensures.1 in
    rw (e.1, e.2) (no_rule_writer g.W.Destination.fails (lint_words_made c.args.words.now) _ c.in_err-rules.ensures.stops)

pub returns-in-Some-clause-ran : goal.returns-in-Some-clause-ran
returns-in-Some-clause-ran g c = (
  [],
  Consumes-nil _,
  λ untold. words_on_named (g.M.Memory.refuses c.args.memory.now) (g.F.FileSource.held c.args.files.now)
      (g.F.FileSource.fails_with c.args.files.now) (lint_words_made c.args.words.now) _ _ c.in-Some.path.now _ _ _ _ c.on_named.result _
      (sym c.are_sizes.ensures ∙ c.if-not-are_sizes.false) c.in_ok-rules.ensures.known (c.in_ok-rules.ensures.asked, c.form_of.ensures, refl)
      (ap (option_map (λ s. s.now)) c.in-Some.is) c.units_of_file-units.ensures c.answer_over_file.ensures
      (c.on_named.ensures.ran untold),
)

pub returns-in-Some-clause-blames : goal.returns-in-Some-clause-blames
returns-in-Some-clause-blames g c first is = (
  is,
  λ e. absurd (file_named (g.M.Memory.refuses c.args.memory.now) (g.F.FileSource.held c.args.files.now)
      (g.F.FileSource.fails_with c.args.files.now) (lint_words_made c.args.words.now) _ _
      (ap (option_map (λ s. s.now)) c.in-Some.is) e.1),
)

pub returns-in-Some-clause-blames_writer : goal.returns-in-Some-clause-blames_writer
returns-in-Some-clause-blames_writer g c untold =
    rw c.answer_over_file.ensures (over_writer g.W.Destination.fails c.on_named.result (c.on_named.ensures.blames untold))

pub returns-in-None-clause-ran : goal.returns-in-None-clause-ran
returns-in-None-clause-ran g c =
    let done = c.on_input.ensures.ran in (
      done.0,
      done.1,
      λ untold. words_on_input (g.M.Memory.refuses c.args.memory.now) (g.F.FileSource.held c.args.files.now)
          (g.F.FileSource.fails_with c.args.files.now) (lint_words_made c.args.words.now) _ (section_seen c.section.result) done.0 _ _ _ _ _
          (sym c.are_sizes.ensures ∙ c.if-not-are_sizes.false) c.in_ok-rules.ensures.known (c.in_ok-rules.ensures.asked, c.form_of.ensures, refl)
          (ap (option_map (λ s. s.now)) c.in-None.is) c.section.ensures (done.2 untold),
    )

pub returns-in-None-clause-blames : goal.returns-in-None-clause-blames
returns-in-None-clause-blames g c =
    blames_where c.on_input.ensures.blames (λ e. (
      e.0,
      blamed_section (g.M.Memory.refuses c.args.memory.now)
          (g.F.FileSource.held c.args.files.now) (g.F.FileSource.fails_with c.args.files.now) (lint_words_made c.args.words.now)
          (section_seen c.section.result) c.on_input.result c.section.ensures e.1,
    ))
