use Rattle.std.proofs.Common.{sym, ap, ◌∙◌}
use Rattle.std.specs.Prelude.{option_map}
use Rattle.dl_field.specs.HeaderData.{header_cells}
use Rattle.dl_table.specs.EntryHeld.{entry_items}
use Rattle.dl_path.proofs.HeaderTextLemmas.{alone_within, file_cells}
use Rattle.dl_path.proofs.parts.parts_under.Goals as goal

pub returns-then-is_whole-clause-within : goal.returns-then-is_whole-clause-within
returns-then-is_whole-clause-within c =
    let h = c.args.header.now in
    let is = sym (ap (option_map entry_items) c.in_ok-entry.was) ∙ c.file.ensures in
    let few = c.in_ok-name.ensures.within (header_cells h)
    (λ v at. file_cells h c.args.file (entry_items c.in_ok-entry.entry) 1 v is at) in
    alone_within (header_cells h) c.alone.result c.in_ok-name.name c.alone.ensures.base c.alone.ensures.directory
    c.alone.ensures.name few

pub returns-clause-within : goal.returns-clause-within
returns-clause-within c =
    let h = c.args.header.now in
    let is = sym (ap (option_map entry_items) c.in_ok-entry.was) ∙ c.file.ensures in
    c.parts_within.ensures.within (c.in_ok-name.ensures.within (header_cells h)
    (λ v at. file_cells h c.args.file (entry_items c.in_ok-entry.entry) 1 v is at))
