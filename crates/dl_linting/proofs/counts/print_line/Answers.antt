use Rattle.std.proofs.Common.{◌++◌, codes}
use Rattle.std.proofs.lemmas.Result.{err_from_is_err_and}
use Rattle.dl_findings.specs.RuleNames.{all_rules}
use Rattle.dl_path.proofs.PrintLemmas.{loses_front, loses_then, prints_then}
use Rattle.dl_linting.specs.CountText.{counts_text}
use Rattle.dl_linting.proofs.counts.print_line.Goals as goal

pub returns-in_err-put-clause-printed : goal.returns-in_err-put-clause-printed
returns-in_err-put-clause-printed g c start text h =
    let e = err_from_is_err_and c.from_residual.result c.from_residual.ensures.1 in
    rw (e.1, e.2) (loses_front _ _ _ (codes "findings:") (counts_text c.args.counts.now all_rules ++ codes "\n") _
    c.in_err-put.ensures.printed start text h)

pub returns-in_err-print_counts-clause-printed : goal.returns-in_err-print_counts-clause-printed
returns-in_err-print_counts-clause-printed g c start text h =
    let e = err_from_is_err_and c.from_residual-in_err-print_counts.result c.from_residual-in_err-print_counts.ensures.1 in
    rw (e.1, e.2) (loses_then _ _ _ _ _ (codes "findings:") (counts_text c.args.counts.now all_rules ++ codes "\n") _
    c.in_ok-put.ensures.printed
    (loses_front _ _ _ (counts_text c.args.counts.now all_rules) (codes "\n") _ c.in_err-print_counts.ensures.printed) start text h)

pub returns-clause-printed : goal.returns-clause-printed
returns-clause-printed g c =
    prints_then _ _ _ _ _ _ (codes "findings:") (counts_text c.args.counts.now all_rules ++ codes "\n") _
    c.in_ok-put.ensures.printed
    (prints_then _ _ _ _ _ _ (counts_text c.args.counts.now all_rules) (codes "\n") _ c.in_ok-print_counts.ensures.printed
    c.put-2.ensures.printed)
