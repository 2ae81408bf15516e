use Rattle.std.proofs.Common.{length, subst}
use Rattle.dl_memory.specs.Refusals.{IsRefused}
use Rattle.dl_sections.specs.declared.options.TheConstants.{SECTION_LIMIT}
use Rattle.dl_open.proofs.DirectoriesLemmas.{had_size}
use Rattle.dl_open.specs.Walked.{IsWalked}
use Rattle.dl_open.proofs.directories.walk_through.Goals as goal

pub returns-in-Ok-clause-places : goal.returns-in-Ok-clause-places
returns-in-Ok-clause-places g c source content gives =
    let walked = subst (IsWalked c.args.order c.args.abbreviations.now content) c.in-Some.is
    (c.in_ok-walk.ensures.walked source content gives) in
    (walked.0, walked.1, c.in-Ok.ensures.places _ _ walked.0 walked.2)

pub returns-in-Err-clause-fails : goal.returns-in-Err-clause-fails
returns-in-Err-clause-fails g c source content gives =
    let walked = subst (IsWalked c.args.order c.args.abbreviations.now content) c.in-Some.is
    (c.in_ok-walk.ensures.walked source content gives) in
    subst (IsRefused (g.M.Memory.refuses c.args.memory.now)) (had_size SECTION_LIMIT content walked.0 walked.1)
    (c.in-Err.ensures.refused (length walked.0) walked.3)
