use Rattle.std.proofs.Common.{sym, ap, ◌∙◌}
use Rattle.std.specs.Prelude.{option_map}
use Rattle.dl_field.specs.HeaderData.{header_cells}
use Rattle.dl_table.specs.EntryHeld.{entry_items}
use Rattle.dl_path.proofs.HeaderTextLemmas.{directory_cells}
use Rattle.dl_path.proofs.parts.directory_text.Goals as goal

pub returns-clause-within : goal.returns-clause-within
returns-clause-within c =
    let h = c.args.header.now in
    let is = sym (ap (option_map entry_items) c.in_ok-directory.was) ∙ c.directory.ensures in
    c.own_path.ensures.within (header_cells h)
    (λ v at. directory_cells h c.args.number (entry_items c.in_ok-directory.field-0) 1 v is at)
