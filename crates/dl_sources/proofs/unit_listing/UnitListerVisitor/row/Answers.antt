use Rattle.std.proofs.Common.{refl, sym, ◌∙◌, true≢false}
use Rattle.dl_sources.proofs.UnitListingLemmas.{row_heard}
use Rattle.dl_sources.proofs.unit_listing.UnitListerVisitor.row.Goals as goal

pub returns-then-is_own-clause-heard : goal.returns-then-is_own-clause-heard
returns-then-is_own-clause-heard g c first start visits s =
    row_heard first c.args.self.now start (g.W.Write.contents c.args._output.now) visits s c.count_row.new.self c.args._header.now
    c.args.row.now (λ e. absurd (true≢false (sym c.if-is_own.true ∙ c.is_own.ensures ∙ e)))
    (λ e. (c.count_row.ensures.same, c.count_row.ensures.counted))

pub returns-else-is_own-clause-heard : goal.returns-else-is_own-clause-heard
returns-else-is_own-clause-heard g c first start visits s =
    row_heard first c.args.self.now start (g.W.Write.contents c.args._output.now) visits s c.args.self.now.lister c.args._header.now
    c.args.row.now (λ e. refl) (λ e. absurd (true≢false (sym e ∙ sym c.is_own.ensures ∙ c.if-is_own.false)))
