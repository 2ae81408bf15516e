use Rattle.std.proofs.Common.{◌||◌, ◌∙◌, [], ap, refl}
use Rattle.std.specs.Prelude.{unwrap_or}
use Rattle.std.specs.Option.{option_map}
use Rattle.dl_addr.specs.Code.{is_code}
use Rattle.dl_cmd.specs.Job.{index_words_made}
use Rattle.dl_elf.specs.Notes.{build_id_bytes}
use Rattle.dl_open.specs.declared.stop.FileStop.TheVariants as at
use Rattle.dl_program.proofs.BlameLemmas.{over_writer}
use Rattle.dl_locating.proofs.IndexingLemmas.{index_done, index_refused}
use Rattle.dl_program.proofs.TableLemmas.{on_file_as}
use Rattle.dl_locating.proofs.indexing.index_file.Goals as goal

pub returns-in-Err-clause-indexed : goal.returns-in-Err-clause-indexed
returns-in-Err-clause-indexed g c =
    index_refused (g.M.Memory.refuses c.args.memory.now) (g.F.FileSource.held c.args.files.now) (g.F.FileSource.fails_with c.args.files.now) c.args.path.now
    (index_words_made c.args.words.now) _ _ (at.File c.args.path c.in-Err.fault) c.in-Err.fault
    c.wants_directories-wanted.result c.wants_directories-wanted.ensures c.in-Err.ensures.code (refl, refl) refl

pub returns-clause-indexed : goal.returns-clause-indexed
returns-clause-indexed g c =
    let told = c.in-Ok.ensures in
    index_done (g.M.Memory.refuses c.args.memory.now) (g.F.FileSource.held c.args.files.now) (g.F.FileSource.fails_with c.args.files.now) c.args.path.now
    (index_words_made c.args.words.now) c.in-Ok.opened.code c.in-Ok.opened.directories
    (option_map build_id_bytes c.in-Ok.opened.build_id) (record {
      code = c.live_in.result;
      directories = c.compiled_in.result;
      all = c.args.words.now.all;
      build_id = c.id_bytes.result;
    }) c.indexing-command.result _ _ c.on_file.result _ c.wants_directories-wanted.result
    c.wants_directories-wanted.ensures told.code told.directories told.build_id
    (λ a. c.live_in.ensures a ∙ ap (λ code. c.args.words.now.all || is_code code a) c.as_ref.ensures.value)
    c.compiled_in.ensures refl
    (c.id_bytes.ensures ∙ ap (λ id. unwrap_or (option_map build_id_bytes id) []) c.as_ref-2.ensures.value)
    c.indexing-command.ensures
    (λ f known short. on_file_as (g.M.Memory.refuses c.args.memory.now) c.units_of_file-units.result _ _ _ c.args.path.now _ c.indexing-command.result f _ _ _
    _ c.units_of_file-units.ensures told.reads (c.on_file.ensures.ran tt f (told.bytes ∙ known) short))
    c.answer_over_file.ensures

pub returns-clause-blames_writer : goal.returns-clause-blames_writer
returns-clause-blames_writer g c =
    rw c.answer_over_file.ensures (over_writer g.W.Destination.fails c.on_file.result (c.on_file.ensures.blames tt))
