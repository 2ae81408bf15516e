use Rattle.std.proofs.Common.{◌∙◌, inl, inr, refl, sym, true≢false}
use Rattle.dl_lines.proofs.places.collect.Goals as goal

pub returns-then-is_no_memory-clause-collected : goal.returns-then-is_no_memory-clause-collected
returns-then-is_no_memory-clause-collected g c first start held visits w exact whole same s made_for =
    absurd (true≢false (sym c.if-is_no_memory.true ∙ c.is_no_memory.ensures ∙ whole))

pub returns-in-Ok-clause-collected : goal.returns-in-Ok-clause-collected
returns-in-Ok-clause-collected g c first start held visits w exact whole same s made_for =
    inr (refl, c.in-Ok.ensures.places first start held visits w exact s made_for)

pub returns-in-Ok-clause-refused : goal.returns-in-Ok-clause-refused
returns-in-Ok-clause-refused g c is =
    absurd (true≢false (sym is ∙ sym c.is_no_memory.ensures ∙ c.if-is_no_memory.false))

pub returns-in-Err-clause-collected : goal.returns-in-Err-clause-collected
returns-in-Err-clause-collected g c first start held visits w exact whole same s made_for =
    inl (c.no_places-in-Err.ensures, c.in-Err.ensures.refused first start held visits w exact same s made_for)
