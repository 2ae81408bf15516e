use Rattle.std.proofs.Common.{◌+◌, ◌++◌, ◌≡◌, ◌≤◌, ◌∙◌, Bool, ℕ, [], List, false, length, subst, sym, true}
use Rattle.dl_memory.specs.Refusals.{IsRefused}
use Rattle.dl_sections.specs.Visiting.{GoesOn}
use Rattle.dl_sources.specs.Holding.{Holds}
use Rattle.dl_sources.specs.Listing.{cells_of, end_room, end_told, entry_count}
use Rattle.dl_sources.specs.Sources.{Mention}
use Rattle.dl_sources.proofs.UnitListingLemmas.{after_other, foreign_ends, own_ends, where_err, where_ok}
use Rattle.dl_sources.proofs.unit_listing.UnitListerVisitor.end.Goals as goal

pub returns-in-Other-clause-heard : goal.returns-in-Other-clause-heard
returns-in-Other-clause-heard g c first start visits s told =
    rw c.after_another.ensures (after_other first c.args.self.now start (g.W.Write.contents c.args._output.now) visits s
    c.args.header c.in-Other.is)

pub returns-in-Foreign-clause-heard : goal.returns-in-Foreign-clause-heard
returns-in-Foreign-clause-heard g c first start visits s told =
    foreign_ends first c.args.self.now start (g.W.Write.contents c.args._output.now) visits s c.args.header c.in-Foreign.is

pub returns-clause-heard : goal.returns-clause-heard
returns-clause-heard g c first start visits s told =
    let l = c.args.self.now.lister in
    let new = c.end_unit.new.self in
    let result = c.end_unit.result in
    own_ends first c.args.self.now start (g.W.Write.contents c.args._output.now) visits s c.args.header c.in-Own.is told
    new c.is_err-self.result c.end_unit.ensures.same c.end_unit.ensures.unit c.end_unit.ensures.refused
    (λ e. (
      where_ok _ result c.end_unit.ensures.counts (sym c.is_err-self.ensures.value ∙ e),
      subst (λ h. (mentions : List Mention) → Holds l.table mentions → Holds new.table (mentions ++ end_told l h))
          c.as_ref.ensures.value (where_ok _ result c.end_unit.ensures.told (sym c.is_err-self.ensures.value ∙ e)),
    ))
    (λ e. subst (λ h. (mentions : List Mention) → Holds l.table mentions
    → IsRefused (g.M.Memory.refuses l.memory.now) (length mentions + end_room l h)) c.as_ref.ensures.value
    (where_err _ result c.end_unit.ensures.wants (sym c.is_err-self.ensures.value ∙ e)))
    (subst (λ h. entry_count h ≤ cells_of h) c.as_ref.ensures.value c.end_unit.ensures.few)
