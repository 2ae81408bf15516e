use Rattle.std.proofs.Common.{◌∙◌, Bool, sym, ap}
use Rattle.dl_findings.specs.declared.finding.Found.TheVariants as found
use Rattle.dl_lint.specs.RowRules.{found_if}
use Rattle.dl_lint.proofs.row_rules.no_statement.Goals as goal

pub returns : goal.returns
returns c visits h is =
    c.found.ensures visits is
    ∙ ap (λ (b : Bool). found_if b visits c.args.row.now found.NoStatement)
    (sym c.if-not-ends_without_statement.false ∙ c.ends_without_statement.ensures visits is)
