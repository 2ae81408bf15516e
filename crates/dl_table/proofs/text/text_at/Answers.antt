use Rattle.std.proofs.Common.{drop, sym, ◌∙◌}
use Rattle.std.proofs.lemmas.List.{take_rest}
use Rattle.dl_table.proofs.TextLemmas.{text_in-position}
use Rattle.dl_table.proofs.text.text_at.Goals as goal

pub returns-in-Some : goal.returns-in-Some
returns-in-Some c =
    let section = c.args.section.now in
    let found = rw (take_rest section c.args.offset) at (sym c.first_zero.ensures.value ∙ c.in-Some.is) in
    rw (text_in-position (drop c.args.offset section), found, take_rest section c.args.offset)

pub returns-in-None : goal.returns-in-None
returns-in-None c =
    let section = c.args.section.now in
    let none = rw (take_rest section c.args.offset) at (sym c.first_zero.ensures.value ∙ c.in-None.is) in
    rw (text_in-position (drop c.args.offset section), none)
