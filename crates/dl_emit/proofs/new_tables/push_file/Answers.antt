use Rattle.std.proofs.Common.{ap, arith, length}
use Rattle.dl_memory.proofs.RefusalLemmas.{wants_fewer}
use Rattle.dl_table.specs.Value.{number, text}
use Rattle.dl_table.specs.EntryHeld.{entry_items}
use Rattle.dl_emit.specs.Conversion.{kept_numbers, number_in, path_in}
use Rattle.dl_emit.specs.Parts.{held_in}
use Rattle.dl_emit.proofs.PartLemmas.{wants_number}
use Rattle.dl_emit.proofs.new_tables.push_file.Goals as goal

pub returns-in_err-push_number-clause-refused : goal.returns-in_err-push_number-clause-refused
returns-in_err-push_number-clause-refused g c =
    let file = entry_items c.args.file.now in
    let few =
    wants_number (held_in c.args.parts.now) (held_in c.loop-content.parts) (text (path_in file))
    (λ content. number (number_in file content)) (kept_numbers c.args.kept.times c.args.kept.sizes)
    c.loop-content.content-index 0 (omega (arith, c.loop-content-test.true, ap length c.numbers-content-items.ensures))
    c.loop-content.invariant.held in
    wants_fewer _ _ _ _ few (rw (c.number.ensures, c.numbers-content-items.ensures) at c.in_err-push_number.ensures.refused)
