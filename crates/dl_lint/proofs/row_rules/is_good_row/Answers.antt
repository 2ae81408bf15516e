use Rattle.std.proofs.Common.{◌∙◌, sym}
use Rattle.dl_lint.proofs.RowLemmas.{good_row, isnt}
use Rattle.dl_lint.proofs.row_rules.is_good_row.Goals as goal

pub returns-clause-nothing : goal.returns-clause-nothing
returns-clause-nothing c s q visits is good =
    good_row visits c.args.header.now c.args.row.now (c.names_a_file.ensures c.if-not-names_a_file.false)
    (sym (c.falls_below.ensures visits is) ∙ c.if-falls_below.false) (sym c.is_wrapped.ensures ∙ c.if-is_wrapped.false)
    (sym (c.ends_nothing.ensures visits is) ∙ c.if-ends_nothing.false)
    (sym (c.ends_without_statement.ensures visits is) ∙ c.if-ends_without_statement.false)
    (sym (c.splits.ensures visits is) ∙ isnt c.splits.result good) s q

pub returns-clause-rises : goal.returns-clause-rises
returns-clause-rises c visits is good = sym (c.falls_below.ensures visits is) ∙ c.if-falls_below.false
