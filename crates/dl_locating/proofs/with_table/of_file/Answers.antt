use Rattle.std.proofs.Common.{◌||◌, ◌∙◌, ap, inl, refl, sym}
use Rattle.std.proofs.KnownBytes.{Keeps-refl}
use Rattle.dl_addr.specs.Code.{is_code}
use Rattle.dl_open.specs.declared.stop.FileStop.TheVariants as at
use Rattle.dl_program.proofs.BlameLemmas.{over_writer}
use Rattle.dl_program.proofs.TableLemmas.{on_file_as}
use Rattle.dl_locating.specs.WithTable.{table_seen}
use Rattle.dl_locating.proofs.TableLemmas.{table_done, table_refused}
use Rattle.dl_locating.proofs.with_table.of_file.Goals as goal

pub returns-then-not-suits_file-clause-read : goal.returns-then-not-suits_file-clause-read
returns-then-not-suits_file-clause-read g c =
    inl (sym c.suits_file.ensures ∙ c.if-not-suits_file.true, refl, Keeps-refl _)

pub returns-in-Err-clause-read : goal.returns-in-Err-clause-read
returns-in-Err-clause-read g c =
    table_refused (g.M.Memory.refuses c.args.memory.now) (g.F.FileSource.held c.args.files.now)
    (g.F.FileSource.fails_with c.args.files.now) (table_seen c.args.words.now) c.args.wish c.args.path.now
    c.wants_directories-wanted.result c.wants_directories-wanted.ensures (sym c.suits_file.ensures ∙ c.if-not-suits_file.false) _ _
    (at.File c.args.path c.in-Err.fault) c.in-Err.fault c.in-Err.ensures.code (refl, refl) refl

pub returns-clause-read : goal.returns-clause-read
returns-clause-read g c =
    let told = c.in-Ok.ensures in
    table_done (g.M.Memory.refuses c.args.memory.now) (g.F.FileSource.held c.args.files.now)
    (g.F.FileSource.fails_with c.args.files.now) (table_seen c.args.words.now) c.args.wish c.args.path.now
    c.wants_directories-wanted.result c.wants_directories-wanted.ensures (sym c.suits_file.ensures ∙ c.if-not-suits_file.false)
    c.in-Ok.opened.1 c.in-Ok.opened.2 c.live_in-code.result c.compiled_in.result c.command-command.result _ _ c.on_file.result _
    told.code told.directories
    (λ a. c.live_in-code.ensures a ∙ ap (λ code. c.args.words.now.all || is_code code a) c.as_ref.ensures.value)
    c.compiled_in.ensures c.command-command.ensures
    (λ f known short. on_file_as (g.M.Memory.refuses c.args.memory.now) c.units_of_file-units.result _ _ _ c.args.path.now _ c.command-command.result f _ _ _
    _ c.units_of_file-units.ensures told.reads (c.on_file.ensures.ran tt f (told.bytes ∙ known) short))
    c.answer_over_file.ensures

pub returns-clause-blames_writer : goal.returns-clause-blames_writer
returns-clause-blames_writer g c =
    rw c.answer_over_file.ensures (over_writer g.W.Destination.fails c.on_file.result (c.on_file.ensures.blames tt))
