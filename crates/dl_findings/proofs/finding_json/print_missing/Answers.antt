use Rattle.std.proofs.Common.{◌++◌, codes}
use Rattle.std.proofs.lemmas.Result.{err_from_is_err_and}
use Rattle.dl_path.proofs.PrintLemmas.{loses_front, loses_then, prints_then}
use Rattle.std.specs.Prelude.{decimal}
use Rattle.dl_findings.specs.FindingText.{section_name}
use Rattle.dl_findings.specs.FindingJson.{entry_members, missing_members}
use Rattle.dl_findings.proofs.finding_json.print_missing.Goals as goal

pub returns-in_err-print_entry-clause-printed : goal.returns-in_err-print_entry-clause-printed
unfolding missing_members
returns-in_err-print_entry-clause-printed g c start text h =
    let e = err_from_is_err_and c.from_residual.result c.from_residual.ensures.1 in
    rw (e.1, e.2) (loses_front _ _ _ (entry_members c.args.entry) ((codes ",\"section\":\"") ++ ((section_name c.args.section) ++ (codes "\",\"at\":" ++ decimal c.args.offset))) _ c.in_err-print_entry.ensures.printed start text h)

pub returns-in_err-put-clause-printed : goal.returns-in_err-put-clause-printed
unfolding missing_members
returns-in_err-put-clause-printed g c start text h =
    let e = err_from_is_err_and c.from_residual-in_err-put.result c.from_residual-in_err-put.ensures.1 in
    rw (e.1, e.2) (loses_then _ _ _ _ _ (entry_members c.args.entry) ((codes ",\"section\":\"") ++ ((section_name c.args.section) ++ (codes "\",\"at\":" ++ decimal c.args.offset))) _ c.in_ok-print_entry.ensures.printed
    (loses_front _ _ _ (codes ",\"section\":\"") ((section_name c.args.section) ++ (codes "\",\"at\":" ++ decimal c.args.offset)) _ c.in_err-put.ensures.printed) start text h)

pub returns-in_err-print_section-clause-printed : goal.returns-in_err-print_section-clause-printed
unfolding missing_members
returns-in_err-print_section-clause-printed g c start text h =
    let e = err_from_is_err_and c.from_residual-in_err-print_section.result c.from_residual-in_err-print_section.ensures.1 in
    rw (e.1, e.2) (loses_then _ _ _ _ _ (entry_members c.args.entry) ((codes ",\"section\":\"") ++ ((section_name c.args.section) ++ (codes "\",\"at\":" ++ decimal c.args.offset))) _ c.in_ok-print_entry.ensures.printed
    (loses_then _ _ _ _ _ (codes ",\"section\":\"") ((section_name c.args.section) ++ (codes "\",\"at\":" ++ decimal c.args.offset)) _ c.in_ok-put.ensures.printed
    (loses_front _ _ _ (section_name c.args.section) (codes "\",\"at\":" ++ decimal c.args.offset) _ c.in_err-print_section.ensures.printed)) start text h)

pub returns-clause-printed : goal.returns-clause-printed
unfolding missing_members
returns-clause-printed g c =
    prints_then _ _ _ _ _ _ (entry_members c.args.entry) ((codes ",\"section\":\"") ++ ((section_name c.args.section) ++ (codes "\",\"at\":" ++ decimal c.args.offset))) _ c.in_ok-print_entry.ensures.printed
    (prints_then _ _ _ _ _ _ (codes ",\"section\":\"") ((section_name c.args.section) ++ (codes "\",\"at\":" ++ decimal c.args.offset)) _ c.in_ok-put.ensures.printed
    (prints_then _ _ _ _ _ _ (section_name c.args.section) (codes "\",\"at\":" ++ decimal c.args.offset) _ c.in_ok-print_section.ensures.printed
    c.print_number.ensures.printed))
