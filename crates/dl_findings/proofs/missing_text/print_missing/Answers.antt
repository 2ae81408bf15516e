use Rattle.std.proofs.Common.{◌++◌, codes}
use Rattle.std.proofs.lemmas.Result.{err_from_is_err_and}
use Rattle.dl_path.proofs.PrintLemmas.{loses_front, loses_then, prints_then}
use Rattle.dl_print.specs.Digits.{hexadecimal}
use Rattle.dl_findings.specs.FindingText.{entry_text, missing_text, section_name}
use Rattle.dl_findings.proofs.missing_text.print_missing.Goals as goal

pub returns-in_err-print_entry-clause-printed : goal.returns-in_err-print_entry-clause-printed
unfolding missing_text
returns-in_err-print_entry-clause-printed g c start text h =
    let e = err_from_is_err_and c.from_residual.result c.from_residual.ensures.1 in
    rw (e.1, e.2) (loses_front _ _ _ (entry_text c.args.entry) ((codes " has a text at ") ++ ((codes "0x" ++ hexadecimal c.args.offset) ++ ((codes " of ") ++ ((section_name c.args.section) ++ (codes ", which has none there"))))) _ c.in_err-print_entry.ensures.printed start text h)

pub returns-in_err-put-clause-printed : goal.returns-in_err-put-clause-printed
unfolding missing_text
returns-in_err-put-clause-printed g c start text h =
    let e = err_from_is_err_and c.from_residual-in_err-put.result c.from_residual-in_err-put.ensures.1 in
    rw (e.1, e.2) (loses_then _ _ _ _ _ (entry_text c.args.entry) ((codes " has a text at ") ++ ((codes "0x" ++ hexadecimal c.args.offset) ++ ((codes " of ") ++ ((section_name c.args.section) ++ (codes ", which has none there"))))) _ c.in_ok-print_entry.ensures.printed
    (loses_front _ _ _ (codes " has a text at ") ((codes "0x" ++ hexadecimal c.args.offset) ++ ((codes " of ") ++ ((section_name c.args.section) ++ (codes ", which has none there")))) _ c.in_err-put.ensures.printed) start text h)

pub returns-in_err-hexadecimal_number-clause-printed : goal.returns-in_err-hexadecimal_number-clause-printed
unfolding missing_text
returns-in_err-hexadecimal_number-clause-printed g c start text h =
    let e = err_from_is_err_and c.from_residual-in_err-hexadecimal_number.result c.from_residual-in_err-hexadecimal_number.ensures.1 in
    rw (e.1, e.2) (loses_then _ _ _ _ _ (entry_text c.args.entry) ((codes " has a text at ") ++ ((codes "0x" ++ hexadecimal c.args.offset) ++ ((codes " of ") ++ ((section_name c.args.section) ++ (codes ", which has none there"))))) _ c.in_ok-print_entry.ensures.printed
    (loses_then _ _ _ _ _ (codes " has a text at ") ((codes "0x" ++ hexadecimal c.args.offset) ++ ((codes " of ") ++ ((section_name c.args.section) ++ (codes ", which has none there")))) _ c.in_ok-put.ensures.printed
    (loses_front _ _ _ (codes "0x" ++ hexadecimal c.args.offset) ((codes " of ") ++ ((section_name c.args.section) ++ (codes ", which has none there"))) _ c.in_err-hexadecimal_number.ensures.printed)) start text h)

pub returns-in_err-put-2-clause-printed : goal.returns-in_err-put-2-clause-printed
unfolding missing_text
returns-in_err-put-2-clause-printed g c start text h =
    let e = err_from_is_err_and c.from_residual-in_err-put-2.result c.from_residual-in_err-put-2.ensures.1 in
    rw (e.1, e.2) (loses_then _ _ _ _ _ (entry_text c.args.entry) ((codes " has a text at ") ++ ((codes "0x" ++ hexadecimal c.args.offset) ++ ((codes " of ") ++ ((section_name c.args.section) ++ (codes ", which has none there"))))) _ c.in_ok-print_entry.ensures.printed
    (loses_then _ _ _ _ _ (codes " has a text at ") ((codes "0x" ++ hexadecimal c.args.offset) ++ ((codes " of ") ++ ((section_name c.args.section) ++ (codes ", which has none there")))) _ c.in_ok-put.ensures.printed
    (loses_then _ _ _ _ _ (codes "0x" ++ hexadecimal c.args.offset) ((codes " of ") ++ ((section_name c.args.section) ++ (codes ", which has none there"))) _ c.in_ok-hexadecimal_number.ensures.printed
    (loses_front _ _ _ (codes " of ") ((section_name c.args.section) ++ (codes ", which has none there")) _ c.in_err-put-2.ensures.printed))) start text h)

pub returns-in_err-print_section-clause-printed : goal.returns-in_err-print_section-clause-printed
unfolding missing_text
returns-in_err-print_section-clause-printed g c start text h =
    let e = err_from_is_err_and c.from_residual-in_err-print_section.result c.from_residual-in_err-print_section.ensures.1 in
    rw (e.1, e.2) (loses_then _ _ _ _ _ (entry_text c.args.entry) ((codes " has a text at ") ++ ((codes "0x" ++ hexadecimal c.args.offset) ++ ((codes " of ") ++ ((section_name c.args.section) ++ (codes ", which has none there"))))) _ c.in_ok-print_entry.ensures.printed
    (loses_then _ _ _ _ _ (codes " has a text at ") ((codes "0x" ++ hexadecimal c.args.offset) ++ ((codes " of ") ++ ((section_name c.args.section) ++ (codes ", which has none there")))) _ c.in_ok-put.ensures.printed
    (loses_then _ _ _ _ _ (codes "0x" ++ hexadecimal c.args.offset) ((codes " of ") ++ ((section_name c.args.section) ++ (codes ", which has none there"))) _ c.in_ok-hexadecimal_number.ensures.printed
    (loses_then _ _ _ _ _ (codes " of ") ((section_name c.args.section) ++ (codes ", which has none there")) _ c.in_ok-put-2.ensures.printed
    (loses_front _ _ _ (section_name c.args.section) (codes ", which has none there") _ c.in_err-print_section.ensures.printed)))) start text h)

pub returns-clause-printed : goal.returns-clause-printed
unfolding missing_text
returns-clause-printed g c =
    prints_then _ _ _ _ _ _ (entry_text c.args.entry) ((codes " has a text at ") ++ ((codes "0x" ++ hexadecimal c.args.offset) ++ ((codes " of ") ++ ((section_name c.args.section) ++ (codes ", which has none there"))))) _ c.in_ok-print_entry.ensures.printed
    (prints_then _ _ _ _ _ _ (codes " has a text at ") ((codes "0x" ++ hexadecimal c.args.offset) ++ ((codes " of ") ++ ((section_name c.args.section) ++ (codes ", which has none there")))) _ c.in_ok-put.ensures.printed
    (prints_then _ _ _ _ _ _ (codes "0x" ++ hexadecimal c.args.offset) ((codes " of ") ++ ((section_name c.args.section) ++ (codes ", which has none there"))) _ c.in_ok-hexadecimal_number.ensures.printed
    (prints_then _ _ _ _ _ _ (codes " of ") ((section_name c.args.section) ++ (codes ", which has none there")) _ c.in_ok-put-2.ensures.printed
    (prints_then _ _ _ _ _ _ (section_name c.args.section) (codes ", which has none there") _ c.in_ok-print_section.ensures.printed
    c.put-3.ensures.printed))))
