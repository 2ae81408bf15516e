use Rattle.std.proofs.Common.{◌∙◌, [], inl, inr, refl, subst, sym}
use Rattle.std.proofs.KnownBytes.{Consumes-nil, Keeps-refl}
use Rattle.dl_open.specs.Files.{FilesStop}
use Rattle.dl_sections.proofs.BlameLemmas.{blames_where}
use Rattle.dl_sections.specs.declared.fault.RunFault.{RunFault}
use Rattle.dl_program.specs.Held.{section_seen}
use Rattle.dl_program.proofs.BlameLemmas.{files_writer, same_stop, stopped_read, stopped_writer}
use Rattle.dl_linting.proofs.LintingLemmas.{told_with}
use Rattle.dl_linting.proofs.over_input.on_input.Goals as goal

pub returns-in-Ok-clause-ran : goal.returns-in-Ok-clause-ran
returns-in-Ok-clause-ran g c =
    let ran = c.lint_section.ensures.ran in (
      ran.0,
      ran.1,
      λ untold. inl (
        _,
        c.in-Ok.ensures,
        c.lint_section.result,
        c.stopped.ensures,
        c.of_section-wish.result,
        c.of_section-wish.ensures,
        told_with (g.M.Memory.refuses c.args.memory.now) c.of_section-wish.result _ _ _ _ _ ran.0 _ _ _
            (g.D.DamageSink.hears c.args.damages.now c.lint_section.new.damages) c.lint_section.result
            (c.options-options.ensures.dialect ∙ c.dialect.ensures) c.options-options.ensures.strings
            c.options-options.ensures.limit (ran.2 untold),
      ),
    )

pub returns-in-Err-clause-ran : goal.returns-in-Err-clause-ran
returns-in-Err-clause-ran g c = (
  [],
  Consumes-nil _,
  λ untold. inr (c.in-Err.fault, c.in-Err.ensures, ((refl, refl, Keeps-refl _), untold)),
)

pub returns-in-Err-clause-blames : goal.returns-in-Err-clause-blames
returns-in-Err-clause-blames g c first is = (
  is,
  λ e. absurd (e.1.1 (subst (λ (f : RunFault). FilesStop (g.M.Memory.refuses c.args.memory.now)
      (g.F.FileSource.held c.args.files.now) (g.F.FileSource.fails_with c.args.files.now) (section_seen c.args.section).line_str (section_seen c.args.section).strings f) (same_stop c.in-Err.fault e.1.0)
      c.in-Err.ensures)),
)

pub returns-in-Ok-clause-blames : goal.returns-in-Ok-clause-blames
returns-in-Ok-clause-blames g c =
    blames_where c.lint_section.ensures.blames (λ e. (e.0, stopped_read c.lint_section.result (sym c.stopped.ensures ∙ e.1.0)))

pub returns-in-Ok-clause-blames_writer : goal.returns-in-Ok-clause-blames_writer
returns-in-Ok-clause-blames_writer g c untold =
    rw c.stopped.ensures (stopped_writer _ c.lint_section.result (c.lint_section.ensures.blames_writer untold))

pub returns-in-Err-clause-blames_writer : goal.returns-in-Err-clause-blames_writer
returns-in-Err-clause-blames_writer g c untold =
    files_writer _ (g.M.Memory.refuses c.args.memory.now) (g.F.FileSource.held c.args.files.now)
    (g.F.FileSource.fails_with c.args.files.now) (section_seen c.args.section).line_str
    (section_seen c.args.section).strings c.in-Err.fault c.in-Err.ensures
