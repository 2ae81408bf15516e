use Rattle.std.proofs.Common.{◌∙◌, arith, subst, sym}
use Rattle.dl_memory.proofs.RefusalLemmas.{wants_fewer}
use Rattle.dl_table.specs.Sound.{IsSoundTable}
use Rattle.dl_emit.specs.Parts.{held_in}
use Rattle.dl_emit.proofs.ConversionSound.{sound_directories}
use Rattle.dl_emit.proofs.PartLemmas.{directories_first, directories_made, directories_rest}
use Rattle.dl_emit.proofs.new_tables.directories.Goals as goal

pub returns-in_err-push_text-clause-refused : goal.returns-in_err-push_text-clause-refused
returns-in_err-push_text-clause-refused g c =
    wants_fewer _ _ _ _ (directories_first c.args.first.now c.args.old.now (held_in c.new-parts.result)
    c.new-parts.ensures.nothing) c.in_err-push_text.ensures.refused

pub returns-in_err-push_directories-clause-refused : goal.returns-in_err-push_directories-clause-refused
returns-in_err-push_directories-clause-refused g c =
    wants_fewer _ _ _ _ (directories_rest c.args.first.now c.args.old.now (held_in c.push_text.new.self)
    (rw c.new-parts.ensures.nothing at c.in_ok-push_text.ensures.held)) c.in_err-push_directories.ensures.refused

pub of_parts-requires-clause-sound : goal.of_parts-requires-clause-sound
of_parts-requires-clause-sound g c =
    let parts = c.push_directories.new.parts in
    let held = rw (c.in_ok-push_text.ensures.held, c.new-parts.ensures.nothing) at c.in_ok-push_directories.ensures.held in
    let made = directories_made c.args.first.now c.args.old.now c.format.result c.in_ok-pairs.pairs.items
    parts.values.items parts.pool.items c.format.ensures.value c.in_ok-pairs.ensures.same held in
    subst IsSoundTable (sym made.0) (sound_directories c.args.first.now c.requires c.args.old.now c.format.ensures.sound
    (omega (arith, made.1, parts.values.ok.0)))

pub returns-clause-value : goal.returns-clause-value
returns-clause-value g c =
    let parts = c.push_directories.new.parts in
    let held = rw (c.in_ok-push_text.ensures.held, c.new-parts.ensures.nothing) at c.in_ok-push_directories.ensures.held in
    c.of_parts.ensures ∙ (directories_made c.args.first.now c.args.old.now c.format.result c.in_ok-pairs.pairs.items
    parts.values.items parts.pool.items c.format.ensures.value c.in_ok-pairs.ensures.same held).0
