use Rattle.std.proofs.Common.{inl, inr, List, refl, subst}
use Rattle.dl_lines.specs.declared.search.Search.{Search}
use Rattle.dl_lines.specs.Printing.{PrintsText, found_by, searches_text}
use Rattle.dl_lines.proofs.AnsweringLemmas.{order_refused, prints}
use Rattle.dl_lines.proofs.answering.answer.Goals as goal

pub returns-in_default-clause-answered : goal.returns-in_default-clause-answered
returns-in_default-clause-answered g c first start held visits wanted exact whole s made_for =
    inl (
      refl,
      refl,
      order_refused g.M.Memory.refuses first c.args.seeker.now start held visits wanted exact s made_for
          c.in_default.ensures.refused,
    )

pub returns-clause-answered : goal.returns-clause-answered
returns-clause-answered g c first start held visits wanted exact whole s made_for =
    let before = g.W.Write.contents c.args.output.now in
    let after = g.W.Write.contents c.print_all-printed.new.output in
    let new = c.order.new.self.searches.items in
    let ordered = c.in-Ok.ensures.ordered in
    inr (
      c.print_all-printed.result,
      prints g.M.Memory.refuses first c.args.seeker.now start held visits wanted exact s made_for new ordered.0 ordered.1
          before after c.print_all-printed.result
          (subst (λ (l : List Search). PrintsText before after (searches_text l) (found_by l) c.print_all-printed.result)
          c.searches.ensures c.print_all-printed.ensures.printed),
      c.told.ensures,
    )
