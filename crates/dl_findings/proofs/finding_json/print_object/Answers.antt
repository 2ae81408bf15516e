use Rattle.std.proofs.Common.{◌++◌, codes}
use Rattle.std.proofs.lemmas.Result.{err_from_is_err_and}
use Rattle.dl_path.proofs.PrintLemmas.{loses_front, loses_then, prints_then}
use Rattle.dl_findings.specs.FindingJson.{found_members, object_start, subject_members}
use Rattle.dl_findings.proofs.finding_json.print_object.Goals as goal

pub returns-in_err-print_start-clause-printed : goal.returns-in_err-print_start-clause-printed
returns-in_err-print_start-clause-printed g c start text h =
    let e = err_from_is_err_and c.from_residual.result c.from_residual.ensures.1 in
    rw (e.1, e.2, ← c.rule.ensures, ← c.name.ensures) (loses_front _ _ _ (object_start c.args.finding.now.offset c.name.result.now) ((subject_members c.args.finding.now.row) ++ ((found_members c.args.finding.now.found) ++ (codes "}\n"))) _
    c.in_err-print_start.ensures.printed start text h)

pub returns-in_err-print_subject-clause-printed : goal.returns-in_err-print_subject-clause-printed
returns-in_err-print_subject-clause-printed g c start text h =
    let e = err_from_is_err_and c.from_residual-in_err-print_subject.result c.from_residual-in_err-print_subject.ensures.1 in
    rw (e.1, e.2, ← c.rule.ensures, ← c.name.ensures) (loses_then _ _ _ _ _ (object_start c.args.finding.now.offset c.name.result.now) ((subject_members c.args.finding.now.row) ++ ((found_members c.args.finding.now.found) ++ (codes "}\n"))) _ c.in_ok-print_start.ensures.printed
    (loses_front _ _ _ (subject_members c.args.finding.now.row) ((found_members c.args.finding.now.found) ++ (codes "}\n")) _ c.in_err-print_subject.ensures.printed) start text h)

pub returns-in_err-print_found-clause-printed : goal.returns-in_err-print_found-clause-printed
returns-in_err-print_found-clause-printed g c start text h =
    let e = err_from_is_err_and c.from_residual-in_err-print_found.result c.from_residual-in_err-print_found.ensures.1 in
    rw (e.1, e.2, ← c.rule.ensures, ← c.name.ensures) (loses_then _ _ _ _ _ (object_start c.args.finding.now.offset c.name.result.now) ((subject_members c.args.finding.now.row) ++ ((found_members c.args.finding.now.found) ++ (codes "}\n"))) _ c.in_ok-print_start.ensures.printed
    (loses_then _ _ _ _ _ (subject_members c.args.finding.now.row) ((found_members c.args.finding.now.found) ++ (codes "}\n")) _ c.in_ok-print_subject.ensures.printed
    (loses_front _ _ _ (found_members c.args.finding.now.found) (codes "}\n") _ c.in_err-print_found.ensures.printed)) start text h)

pub returns-clause-printed : goal.returns-clause-printed
returns-clause-printed g c =
    rw (← c.rule.ensures, ← c.name.ensures) (prints_then _ _ _ _ _ _ (object_start c.args.finding.now.offset c.name.result.now) ((subject_members c.args.finding.now.row) ++ ((found_members c.args.finding.now.found) ++ (codes "}\n"))) _ c.in_ok-print_start.ensures.printed
    (prints_then _ _ _ _ _ _ (subject_members c.args.finding.now.row) ((found_members c.args.finding.now.found) ++ (codes "}\n")) _ c.in_ok-print_subject.ensures.printed
    (prints_then _ _ _ _ _ _ (found_members c.args.finding.now.found) (codes "}\n") _ c.in_ok-print_found.ensures.printed
    c.put.ensures.printed)))
