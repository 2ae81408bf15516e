use Rattle.std.proofs.Common.{Some, None, ap, sym, subst, ◌∙◌}
use Rattle.std.specs.Option.{option_copied}
use Rattle.dl_addr.specs.Code.{is_code}
use Rattle.dl_cmd.specs.Job.{addr_words_made}
use Rattle.dl_dirs.specs.Compilation.{directory_by}
use Rattle.dl_program.specs.Damages.{unheard}
use Rattle.dl_locating.specs.Located.{located}
use Rattle.dl_program.specs.Stops.{over_file}
use Rattle.dl_program.specs.Tables.{OnFile}
use Rattle.dl_program.specs.Units.{file_units}
use Rattle.dl_program.proofs.BlameLemmas.{over_reads, over_writer}
use Rattle.dl_locating.proofs.BlameLemmas.{located_reads, located_writer}
use Rattle.dl_program.proofs.TableLemmas.{on_file_as}
use Rattle.dl_locating.proofs.over_elf_file.given.Goals as goal

pub returns-clause-located : goal.returns-clause-located
returns-clause-located g c = λ understood f known short.
    let w = addr_words_made c.args.words.now in
    let q = c.question-question.ensures in
    let reads = g.S.ReadAt.fails_with c.args.file.now in (
      c.question-question.result,
      c.on_file-answer.result,
      record {
        asked = q.asked ∙ (c.as_slice.ensures.value ∙ understood.asked);
        understood = understood.understood;
        base = understood.base ∙ ap Some (sym q.base);
        code = λ a. ap (λ code. is_code (option_copied code) a) q.code ∙ c.live_in.ensures a;
        directories = λ n. ap (λ d. directory_by d n) q.directories ∙ c.compiled_in.ensures n;
        form = q.form;
        basenames = q.basenames;
        section = ap option_copied q.section ∙ c.part_name.ensures;
      },
      subst (λ command. OnFile (g.M.Memory.refuses c.args.memory.now) (file_units w.units) reads c.args.path.now w.section command f
          (g.W.Write.contents c.args.output.now) (g.W.Write.contents c.on_file-answer.new.output) unheard
          c.on_file-answer.result) c.asking-command.ensures
          (on_file_as (g.M.Memory.refuses c.args.memory.now) c.units_of_file-units.result _ _ _ c.args.path.now _ c.asking-command.result f _ _ _ _
          c.units_of_file-units.ensures (λ e fails. fails) (c.on_file-answer.ensures.ran tt f known short)),
      c.by_answer.ensures ∙ ap (λ answer. located answer None) c.answer_over_file.ensures,
    )

pub returns-clause-reads : goal.returns-clause-reads
returns-clause-reads g c =
    let answer = c.on_file-answer.result in
    rw (c.by_answer.ensures, c.answer_over_file.ensures) (located_reads (over_file answer) None
    (over_reads g.W.Destination.fails answer (c.on_file-answer.ensures.blames tt)))

pub returns-clause-blames_writer : goal.returns-clause-blames_writer
returns-clause-blames_writer g c =
    let answer = c.on_file-answer.result in
    rw (c.by_answer.ensures, c.answer_over_file.ensures) (located_writer g.W.Destination.fails (over_file answer) None
    (over_writer g.W.Destination.fails answer (c.on_file-answer.ensures.blames tt)))
