use Rattle.std.proofs.Common.{◌+◌, ◌++◌, ◌≤◌, List, length, true, refl, subst}
use Rattle.dl_memory.specs.Refusals.{IsRefused}
use Rattle.dl_sections.specs.Section.{of_end}
use Rattle.dl_sources.specs.Holding.{Holds}
use Rattle.dl_sources.specs.Listing.{cells_of, end_room, end_told, entry_count}
use Rattle.dl_sources.specs.Sources.{Mention}
use Rattle.dl_sources.proofs.ListingLemmas.{end_wants, ends, stops}
use Rattle.dl_sources.proofs.lister.ListerVisitor.end.Goals as goal

pub returns-in-Ok-clause-heard : goal.returns-in-Ok-clause-heard
returns-in-Ok-clause-heard g c first start visits s told =
    let l = c.args.self.now in
    let new = c.end_unit.new.self in
    ends first l start (g.W.Write.contents c.args._output.now) visits s c.args.header told new
    c.end_unit.ensures.same c.end_unit.ensures.unit c.end_unit.ensures.refused c.in-Ok.ensures.counts
    (subst (λ h. (mentions : List Mention) → Holds l.table mentions → Holds new.table (mentions ++ end_told l h))
    c.as_ref.ensures.value c.in-Ok.ensures.told)
    (subst (λ h. entry_count h ≤ cells_of h) c.as_ref.ensures.value c.end_unit.ensures.few)

pub returns-clause-heard : goal.returns-clause-heard
returns-clause-heard g c first start visits s told =
    let l = c.args.self.now in
    stops first l (record c.end_unit.new.self { is_refused = true }) start (g.W.Write.contents c.args._output.now) visits
    (of_end c.args.header) s
    (let e = c.end_unit.ensures.same in record { memory = e.memory; strings = e.strings; question = e.question })
    c.end_unit.ensures.unit refl
    (end_wants first l start (g.W.Write.contents c.args._output.now) visits s c.args.header told
    (subst (λ h. (mentions : List Mention) → Holds l.table mentions
    → IsRefused (g.M.Memory.refuses l.memory.now) (length mentions + end_room l h)) c.as_ref.ensures.value c.in-Err.ensures.wants)
    (subst (λ h. entry_count h ≤ cells_of h) c.as_ref.ensures.value c.end_unit.ensures.few))
