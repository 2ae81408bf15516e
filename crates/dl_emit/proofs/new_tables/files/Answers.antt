use Rattle.std.proofs.Common.{◌∙◌, arith, subst, sym}
use Rattle.dl_memory.proofs.RefusalLemmas.{wants_fewer}
use Rattle.dl_table.specs.Sound.{IsSoundTable}
use Rattle.dl_emit.specs.Parts.{held_in}
use Rattle.dl_emit.proofs.ConversionSound.{sound_files}
use Rattle.dl_emit.proofs.PartLemmas.{files_first, files_made, files_rest}
use Rattle.dl_emit.proofs.new_tables.files.Goals as goal

pub returns-in_err-push_first_file-clause-refused : goal.returns-in_err-push_first_file-clause-refused
returns-in_err-push_first_file-clause-refused g c =
    wants_fewer _ _ _ _ (files_first c.args.old.now (held_in c.new-parts.result) c.new-parts.ensures.nothing)
    (rw c.of-kept.ensures at c.in_err-push_first_file.ensures.refused)

pub returns-in_err-push_files-clause-refused : goal.returns-in_err-push_files-clause-refused
returns-in_err-push_files-clause-refused g c =
    wants_fewer _ _ _ _ (files_rest c.args.old.now (held_in c.push_first_file.new.parts)
    (rw (c.of-kept.ensures, c.new-parts.ensures.nothing) at c.in_ok-push_first_file.ensures.held))
    (rw c.of-kept.ensures at c.in_err-push_files.ensures.refused)

pub of_parts-requires-clause-whole : goal.of_parts-requires-clause-whole
of_parts-requires-clause-whole g c =
    let parts = c.push_files.new.parts in
    let first = rw (c.of-kept.ensures, c.new-parts.ensures.nothing) at c.in_ok-push_first_file.ensures.held in
    let held = rw (c.of-kept.ensures, first) at c.in_ok-push_files.ensures.held in
    let pairs = c.in_ok-pairs.ensures.same ∙ rw c.of-kept.ensures at c.pairs.ensures in
    (files_made c.args.old.now c.format.result c.in_ok-pairs.pairs.items parts.values.items parts.pool.items
    c.format.ensures.value pairs held).2

pub of_parts-requires-clause-sound : goal.of_parts-requires-clause-sound
of_parts-requires-clause-sound g c =
    let parts = c.push_files.new.parts in
    let first = rw (c.of-kept.ensures, c.new-parts.ensures.nothing) at c.in_ok-push_first_file.ensures.held in
    let held = rw (c.of-kept.ensures, first) at c.in_ok-push_files.ensures.held in
    let pairs = c.in_ok-pairs.ensures.same ∙ rw c.of-kept.ensures at c.pairs.ensures in
    let made = files_made c.args.old.now c.format.result c.in_ok-pairs.pairs.items parts.values.items parts.pool.items
    c.format.ensures.value pairs held in
    subst IsSoundTable (sym made.0) (sound_files c.args.old.now c.format.ensures.sound
    (omega (arith, made.1, parts.values.ok.0)))

pub returns-clause-value : goal.returns-clause-value
returns-clause-value g c =
    let parts = c.push_files.new.parts in
    let first = rw (c.of-kept.ensures, c.new-parts.ensures.nothing) at c.in_ok-push_first_file.ensures.held in
    let held = rw (c.of-kept.ensures, first) at c.in_ok-push_files.ensures.held in
    let pairs = c.in_ok-pairs.ensures.same ∙ rw c.of-kept.ensures at c.pairs.ensures in
    c.of_parts.ensures ∙ (files_made c.args.old.now c.format.result c.in_ok-pairs.pairs.items parts.values.items
    parts.pool.items c.format.ensures.value pairs held).0
