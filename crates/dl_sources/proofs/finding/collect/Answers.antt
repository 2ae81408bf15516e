use Rattle.std.proofs.Common.{[], ◌∙◌, refl, sym, true≢false}
use Rattle.dl_sources.proofs.FoundLemmas.{files_is}
use Rattle.dl_sources.proofs.finding.collect.Goals as goal

pub returns-then-lacks_memory-clause-wanted : goal.returns-then-lacks_memory-clause-wanted
returns-then-lacks_memory-clause-wanted g c is = (refl, files_is c.new-none.result [] c.new-none.ensures)

pub returns-then-lacks_memory-clause-found : goal.returns-then-lacks_memory-clause-found
returns-then-lacks_memory-clause-found g c is =
    absurd (true≢false (sym c.if-lacks_memory.true ∙ c.lacks_memory.ensures ∙ is))

pub returns-clause-wanted : goal.returns-clause-wanted
returns-clause-wanted g c is =
    absurd (true≢false (sym is ∙ sym c.lacks_memory.ensures ∙ c.if-lacks_memory.false))

pub returns-clause-found : goal.returns-clause-found
returns-clause-found g c is = (refl, c.replace.ensures.value)
