use Rattle.std.proofs.Common.{[], Some, subst}
use Rattle.dl_cmd.specs.Job.{addr_words_made}
use Rattle.dl_program.specs.Damages.{unheard}
use Rattle.dl_program.specs.Tables.{OnFile}
use Rattle.dl_program.specs.Units.{file_units}
use Rattle.dl_locating.proofs.AnsweringLemmas.{index_is}
use Rattle.dl_program.proofs.TableLemmas.{on_file_as}
use Rattle.dl_locating.proofs.over_elf_file.make_index.Goals as goal

pub returns-clause-made : goal.returns-clause-made
returns-clause-made g c =
    let w = addr_words_made c.args.words.now in
    let reads = g.S.ReadAt.fails_with c.args.file.now in
    let refuses = g.M.Memory.refuses c.args.memory.now in
    let index = c.on_file-answer.new.output.written.bytes in (
      index,
      λ f known short. subst (λ command. OnFile refuses (file_units w.units) reads c.args.at.path.now w.section command f (Some [])
          (Some index) unheard c.on_file-answer.result) c.making-command.ensures
          (subst (λ start. OnFile refuses (file_units w.units) reads c.args.at.path.now w.section c.making-command.result f
          (Some start) (Some index) unheard c.on_file-answer.result) c.new-held.ensures
          (on_file_as refuses c.units_of_file-units.result _ _ _ c.args.at.path.now _ c.making-command.result f _ _ _ _
          c.units_of_file-units.ensures (λ e fails. fails) (c.on_file-answer.ensures.ran tt f known short))),
      index_is g.K.Refusing.refuses index c.on_file-answer.result c.is_refused.result c.held_unless-index.result c.is_refused.ensures
          c.held_unless-index.ensures.whole c.held_unless-index.ensures.none,
    )
