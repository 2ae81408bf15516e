use Rattle.std.proofs.Common.{◌∙◌, [], ap, refl, sym, option_map}
use Rattle.std.proofs.KnownBytes.{Consumes-nil, Keeps-refl}
use Rattle.dl_cmd.specs.Job.{request_made}
use Rattle.dl_program.specs.Asked.{command_seen}
use Rattle.dl_program.specs.Held.{section_seen}
use Rattle.dl_program.proofs.WorkLemmas.{works_on_input, works_on_named}
use Rattle.dl_sections.proofs.BlameLemmas.{blames_where}
use Rattle.dl_program.proofs.BlameLemmas.{blamed_input, file_named, not_understood, over_writer}
use Rattle.dl_program.proofs.working.work.Goals as goal

pub returns-clause-ran : goal.returns-clause-ran
returns-clause-ran g c =
    let done = c.on_input.ensures.ran in (
      done.0,
      done.1,
      λ untold. works_on_input (g.M.Memory.refuses c.args.memory.now) (g.F.FileSource.held c.args.files.now) (g.F.FileSource.fails_with c.args.files.now) _
          (request_made c.in-Some.job) c.in-Some-of.command (section_seen c.section.result) done.0 _ _ _ _ _
          (ap (option_map request_made) c.in-Some.is) (sym c.of.ensures
          ∙ ap (option_map command_seen) c.in-Some-of.is) (sym c.in-None.ensures) c.section.ensures (done.2 untold),
    )

pub returns-in-Some-file-clause-ran : goal.returns-in-Some-file-clause-ran
returns-in-Some-file-clause-ran g c = (
  [],
  Consumes-nil _,
  λ untold. works_on_named (g.M.Memory.refuses c.args.memory.now) (g.F.FileSource.held c.args.files.now) (g.F.FileSource.fails_with c.args.files.now) _
      (request_made c.in-Some.job) c.in-Some-of.command c.file_units.result c.in-Some-file.path.now _ _ _ _ _ _ _
      (ap (option_map request_made) c.in-Some.is) (sym c.of.ensures ∙ ap (option_map command_seen) c.in-Some-of.is) (sym c.in-Some-file.ensures)
      c.file_units.ensures c.part_name.ensures c.answer_over_file.ensures (c.on_named.ensures.ran untold),
)

pub returns-in_default-clause-ran : goal.returns-in_default-clause-ran
returns-in_default-clause-ran g c = (
  [],
  Consumes-nil _,
  λ untold. rw c.in_default.is ((refl, refl, Keeps-refl _), untold),
)

pub returns-in_default-of-clause-ran : goal.returns-in_default-of-clause-ran
returns-in_default-of-clause-ran g c =
    let none = sym c.of.ensures ∙ ap (option_map command_seen) c.in_default-of.is in (
      [],
      Consumes-nil _,
      λ untold. rw (c.in-Some.is, none) ((refl, refl, Keeps-refl _), untold),
    )

pub returns-clause-blames : goal.returns-clause-blames
returns-clause-blames g c =
    blames_where c.on_input.ensures.blames (λ e.
    let input = blamed_input (g.M.Memory.refuses c.args.memory.now) (g.F.FileSource.held c.args.files.now)
    (g.F.FileSource.fails_with c.args.files.now) (request_made c.in-Some.job) _
    (section_seen c.section.result) c.on_input.result (ap (option_map request_made) c.in-Some.is) c.section.ensures e.1 in
    (e.0, input.0, input.1))

pub returns-in-Some-file-clause-blames : goal.returns-in-Some-file-clause-blames
returns-in-Some-file-clause-blames g c first is = (
  is,
  λ e. absurd (file_named (g.M.Memory.refuses c.args.memory.now) (g.F.FileSource.held c.args.files.now)
      (g.F.FileSource.fails_with c.args.files.now) (request_made c.in-Some.job) _ _ c.answer_over_file.result
      (ap (option_map request_made) c.in-Some.is) (sym c.in-Some-file.ensures) e.1),
)

pub returns-in_default-clause-blames : goal.returns-in_default-clause-blames
returns-in_default-clause-blames g c first is = (
  is,
  λ e. absurd (not_understood (g.M.Memory.refuses c.args.memory.now) (g.F.FileSource.held c.args.files.now)
      (g.F.FileSource.fails_with c.args.files.now)
      (option_map request_made c.args.job) e.1),
)

pub returns-in_default-of-clause-blames : goal.returns-in_default-of-clause-blames
returns-in_default-of-clause-blames g c first is = (
  is,
  λ e. absurd (not_understood (g.M.Memory.refuses c.args.memory.now) (g.F.FileSource.held c.args.files.now)
      (g.F.FileSource.fails_with c.args.files.now)
      (option_map request_made c.args.job) e.1),
)

pub returns-in-Some-file-clause-blames_writer : goal.returns-in-Some-file-clause-blames_writer
returns-in-Some-file-clause-blames_writer g c untold =
    rw c.answer_over_file.ensures (over_writer g.W.Destination.fails c.on_named.result (c.on_named.ensures.blames untold))
