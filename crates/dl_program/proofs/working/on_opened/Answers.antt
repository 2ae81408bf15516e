use Rattle.std.proofs.Common.{◌∙◌, inr, refl, subst, sym, option_map}
use Rattle.dl_dirs.specs.Directories.{directory_at}
use Rattle.dl_program.specs.Tables.{OnFile}
use Rattle.dl_program.specs.declared.command.Command.{Command}
use Rattle.dl_program.proofs.working.on_opened.Goals as goal

pub returns-then-not-wants_directories-clause-ran : goal.returns-then-not-wants_directories-clause-ran
returns-then-not-wants_directories-clause-ran g c untold f known short =
    rw (sym c.wants_directories.ensures ∙ c.if-not-wants_directories.true) (c.on_file.ensures.ran untold f known short)

pub returns-in-Ok-clause-ran : goal.returns-in-Ok-clause-ran
returns-in-Ok-clause-ran g c untold f known short =
    rw (sym c.wants_directories.ensures ∙ c.if-not-wants_directories.false)
    (inr (
      directory_at c.in-Ok.found,
      c.in-Ok.ensures f known short,
      _,
      λ n. refl,
      subst (λ (k : Command). OnFile (g.M.Memory.refuses c.args.memory.now) c.args.units (g.S.ReadAt.fails_with c.args.file.now) c.args.path.now
          (option_map (λ s. s.now) c.args.section) k f (g.W.Write.contents c.args.output.now) (g.W.Write.contents c.on_file-in-Ok.new.output)
          (g.D.DamageSink.hears c.args.damages.now c.on_file-in-Ok.new.damages) c.on_file-in-Ok.result) c.under-command.ensures
          (c.on_file-in-Ok.ensures.ran untold f known short),
    ))
